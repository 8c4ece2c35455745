-- What happens to connections in their slots, and how many bytes they hold together. Slots are numbers, and moments
-- milliseconds.
use Rattle.std.specs.Prelude.{◌≡◌, ◌≢◌, ℕ, Option, None, IsSomeAnd, [], sum_by}
use Rattle.slab.specs.Slab.{Slab, get, slab_len}
use Rattle.chpw_endpoints.specs.declared.endpoints.Endpoints.{Endpoints}
use Rattle.chpw_endpoints.specs.declared.peer.Peer.{Peer}
use Rattle.chpw_connection.specs.Stages.{reading, Event, stage}
use Rattle.chpw_connection.specs.declared.connection.Connection.{Connection}
use Rattle.chpw_connection.specs.Slot.{Comes}
use Rattle.chpw_connection.specs.Holding.{held_at}

-- the event happened in this slot, and the others are unchanged
pub record Happens (now : ℕ) (old new : Slab Connection) (slot : ℕ) (event : Event) : Type 0 where
  pub here : Comes now event (get old slot) (get new slot)
  pub others : (other : ℕ) → other ≢ slot → get new other ≡ get old other

-- as many connections, and as much room
pub record Stands (old new : Slab Connection) : Type 0 where
  pub len : slab_len new ≡ slab_len old
  pub capacity : new.capacity ≡ old.capacity

-- a connection that was accepted at this moment, in this share and with this number
pub record IsNew (ends : Endpoints) (share : Option Peer) (now number : ℕ) (old new : Slab Connection) (slot : ℕ) : Type 0 where
  pub free : get old slot ≡ None
  pub here : IsSomeAnd (get new slot) (λ c. (stage c ≡ reading [])
      × (c.ends ≡ ends) × (c.number ≡ number) × (c.since ≡ now) × (c.answered ≡ 0) × (c.share ≡ share))
  pub others : (other : ℕ) → other ≢ slot → get new other ≡ get old other

-- how many bytes all connections hold together
abbrev pub held_in : Slab Connection → ℕ
held_in slots = sum_by held_at slots.slots
