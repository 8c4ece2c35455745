-- Who is ended to make room, when connections would hold too much.
use Rattle.std.specs.Prelude.{◌≡◌, ◌≢◌, ℕ, ◌+◌, ◌-◌, ◌/◌, ◌<◌, ◌≤◌, Option, Some, None, Bool, true, false, nat_lt, if◌then◌else◌, ◌⊎◌}
use Rattle.slab.specs.Slab.{Slab, get}
use Rattle.chpw_connection.specs.Holding.{held_at, size_by, growth_at}
use Rattle.chpw_slots.specs.Slots.{held_in}
use Rattle.chpw_connection.specs.Stages.{Event, failed}
use Rattle.chpw_connection.specs.Slot.{Comes}
use Rattle.chpw_connection.specs.declared.limits.ConnectionLimits.{ConnectionLimits}
use Rattle.chpw_connection.specs.declared.connection.Connection.{Connection}
use Rattle.chpw_connection.specs.declared.eviction.EvictionRule.{EvictionRule}
use Rattle.chpw_connection.specs.Eviction.{gives_way_at, gives_way_since}
use Rattle.chpw_slots.specs.Longest.{has_room_besides}

-- it is unchanged, or it gave way and was ended
abbrev pub PutsOut : EvictionRule → Option Connection → Option Connection → Type 0
PutsOut who old new = (new ≡ old) ⊎ ((gives_way_at who old ≡ true) × Comes 0 failed old new)

-- whoever was ended had held its bytes as long as each that would still give way
abbrev pub LongestFirst : EvictionRule → Slab Connection → Slab Connection → ℕ → Type 0
LongestFirst who old new slot = (gone stays since s : ℕ) → gone ≢ slot → stays ≢ slot → get new gone ≢ get old gone
    → gives_way_since who (get old gone) ≡ Some since → gives_way_since who (get new stays) ≡ Some s → since ≤ s

-- others, all of them candidates, were ended for the connection in this slot, as far as was needed
pub record MakesRoom (who : EvictionRule) (old new : Slab Connection) (slot : ℕ) : Type 0 where
  pub here : get new slot ≡ get old slot
  pub others : (other : ℕ) → other ≢ slot → PutsOut who (get old other) (get new other)
  pub order : LongestFirst who old new slot

-- others were ended as far as needed, and the event happened to it
pub record HappensWithRoom (who : EvictionRule) (now : ℕ) (old new : Slab Connection) (slot : ℕ) (event : Event) : Type 0 where
  pub here : Comes now event (get old slot) (get new slot)
  pub others : (other : ℕ) → other ≢ slot → PutsOut who (get old other) (get new other)
  pub order : LongestFirst who old new slot

-- how many bytes the others hold
abbrev pub held_besides : Slab Connection → ℕ → ℕ
held_besides slots slot = held_in slots - held_at (get slots slot)

-- the last one that was ended to make this much more room within a bound: it had been under way for the shortest time of
-- those that were ended, and as long as it held its bytes there was no room
pub record EndsLast (most count : ℕ) (who : EvictionRule) (old new : Slab Connection) (slot : ℕ) : Type 0 where
  pub last : ℕ
  pub other : last ≢ slot
  pub gave : gives_way_at who (get old last) ≡ true
  pub ended : Comes 0 failed (get old last) (get new last)
  pub latest : (gone since s : ℕ) → gone ≢ slot → get new gone ≢ get old gone
      → gives_way_since who (get old gone) ≡ Some since → gives_way_since who (get old last) ≡ Some s → since ≤ s
  pub short : most < held_besides new slot + held_at (get old last) + held_at (get old slot) + count

-- if another one was ended, no more were than needed: without the last one there was no room
abbrev pub IsNeeded : ℕ → ℕ → EvictionRule → Slab Connection → Slab Connection → ℕ → Type 0
IsNeeded most count who old new slot = (gone : ℕ) → gone ≢ slot → get new gone ≢ get old gone → EndsLast most count who old new slot

-- A message of more than 4,096 bytes with its length is large. There is room for one as long as all connections hold no
-- more than half of what they may, and for others as long as they hold no more than three quarters: a flood of large
-- messages leaves room for the others, and messages leave room for replies.
abbrev pub largest_small : ℕ
largest_small = 4096

abbrev pub is_large_in : Option Connection → Bool
is_large_in None = false
is_large_in (Some c) = nat_lt largest_small (size_by c.phase)

abbrev pub read_within : ConnectionLimits → Bool → ℕ
read_within b large = if large then b.bytes / 2 else b.bytes - b.bytes / 4

-- Room for a message is made at the cost of what has been under way for some time, so that messages that are just
-- coming don't end each other; for a large one only at the cost of other large ones.
abbrev pub for_message : ConnectionLimits → ℕ → Option Connection → EvictionRule
for_message b now o = record { larger_than = if is_large_in o then largest_small else 0; begun_by = now - b.grace }

-- Room for a reply is made at the cost of whatever is under way: what the reply reports has been done.
abbrev pub for_reply : ℕ → EvictionRule
for_reply now = record { larger_than = 0; begun_by = now }

-- more bytes of the message in a slot could be read now
abbrev pub has_room_to_read : ConnectionLimits → ℕ → Slab Connection → ℕ → Bool
has_room_to_read b now slots slot =
    let o = get slots slot in
    has_room_besides (read_within b (is_large_in o)) (for_message b now o) slots slot (growth_at o)
