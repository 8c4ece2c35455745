-- Which connection has waited the longest, of all, of a peer's or of those that give way, and how many bytes would stay
-- without these.
use Rattle.std.specs.Prelude.{◌≡◌, ℕ, ◌≤◌, Option, Some, None, Bool, if◌then◌else◌, nat_le, ◌-◌, ◌+◌, ◌==◌, not, nat_lt, sum_by}
use Rattle.slab.specs.Slab.{Slab, get}
use Rattle.chpw_endpoints.specs.declared.peer.Peer.{Peer}
use Rattle.chpw_connection.specs.declared.connection.Connection.{Connection}
use Rattle.chpw_slots.specs.Slots.{held_in}
use Rattle.chpw_connection.specs.Slot.{waits_since}
use Rattle.chpw_connection.specs.Shares.{waits_of_peer}
use Rattle.chpw_connection.specs.declared.eviction.EvictionRule.{EvictionRule}
use Rattle.chpw_connection.specs.Eviction.{gives_way_since, given_at}

-- of those that wait, each since its moment, this one has waited longest
abbrev pub IsEarliest : (ℕ → Option ℕ) → ℕ → Type 0
IsEarliest since_at slot = (since : ℕ) × (since_at slot ≡ Some since) × ((other s : ℕ) → since_at other ≡ Some s → since ≤ s)

-- nobody waits
abbrev pub IsNever : (ℕ → Option ℕ) → Type 0
IsNever since_at = (slot : ℕ) → since_at slot ≡ None

-- this connection has waited for its client the longest
abbrev pub IsLongest : Slab Connection → ℕ → Type 0
IsLongest slots slot = IsEarliest (λ s. waits_since (get slots s)) slot

abbrev pub NobodyWaits : Slab Connection → Type 0
NobodyWaits slots = IsNever (λ s. waits_since (get slots s))

-- of those in a peer's share this one has
abbrev pub IsLongestOf : Peer → Slab Connection → ℕ → Type 0
IsLongestOf peer slots slot = IsEarliest (λ s. waits_of_peer peer (get slots s)) slot

abbrev pub NobodyWaitsOf : Peer → Slab Connection → Type 0
NobodyWaitsOf peer slots = IsNever (λ s. waits_of_peer peer (get slots s))

-- the earlier of two that wait
abbrev pub earlier : Option (ℕ × ℕ) → ℕ → Option ℕ → Option (ℕ × ℕ)
earlier longest slot None = longest
earlier None slot (Some since) = Some (since, slot)
earlier (Some l) slot (Some since) = if nat_le l.0 since then Some l else Some (since, slot)

-- how many bytes the ends of all that give way would free
abbrev pub given_in : EvictionRule → Slab Connection → ℕ
given_in who slots = sum_by (given_at who) slots.slots

-- how many would be held if all that give way had ended but the one in this slot
abbrev pub staying_besides : EvictionRule → Slab Connection → ℕ → ℕ
staying_besides who slots slot = held_in slots - (given_in who slots - given_at who (get slots slot))

-- this many more could be held within a bound, if they had
abbrev pub has_room_besides : ℕ → EvictionRule → Slab Connection → ℕ → ℕ → Bool
has_room_besides most who slots slot count = not (nat_lt most (staying_besides who slots slot + count))

-- since when a slot's connection waits for its client; if room for bytes is made for another one, if it gives way
abbrev pub waits_besides : Slab Connection → Option ℕ → EvictionRule → ℕ → Option ℕ
waits_besides slots None who slot = waits_since (get slots slot)
waits_besides slots (Some besides) who slot = if slot == besides then None else gives_way_since who (get slots slot)

-- among these, this one has waited longest
abbrev pub IsLongestBesides : Slab Connection → Option ℕ → EvictionRule → ℕ → Type 0
IsLongestBesides slots besides who slot = IsEarliest (λ s. waits_besides slots besides who s) slot

abbrev pub NobodyWaitsBesides : Slab Connection → Option ℕ → EvictionRule → Type 0
NobodyWaitsBesides slots besides who = IsNever (λ s. waits_besides slots besides who s)
