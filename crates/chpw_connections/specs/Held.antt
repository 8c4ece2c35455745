-- What a set of connections holds.
use Rattle.std.specs.Prelude.{◌≡◌, ℕ, ◌<◌, List, [], ◌∷◌, ◌++◌, ◌⊎◌}
use Rattle.std.specs.VecDeque.{deque_items, deque_len, deque_capacity}
use Rattle.slab.specs.Slab.{Slab}
use Rattle.chpw_connection.specs.declared.limits.ConnectionLimits.{ConnectionLimits}
use Rattle.chpw_connection.specs.declared.connection.Connection.{Connection}
use Rattle.chpw_connections.specs.declared.set.Connections.{Connections}

-- the connections by their slots
abbrev pub slots_of : Connections → Slab Connection
slots_of c = c.slots.connections

abbrev pub bounds_of : Connections → ConnectionLimits
bounds_of c = c.bounds

-- how many were accepted, and how many removed after their end
abbrev pub accepted_by : Connections → ℕ
accepted_by c = c.accepted

abbrev pub removed_by : Connections → ℕ
removed_by c = c.removed

-- how many ended with a message that had waited too long for its worker
abbrev pub expired_by : Connections → ℕ
expired_by c = c.expired

pub record Counts (c : Connections) (accepted removed : ℕ) : Type 0 where
  pub accepted_is : accepted_by c ≡ accepted
  pub removed_is : removed_by c ≡ removed

-- the slots noted for the caller, the first first
abbrev pub changed_of : Connections → List ℕ
changed_of c = deque_items c.changed

-- one more is noted without an allocation
abbrev pub HasRoomToNote : Connections → Type 0
HasRoomToNote c = deque_len c.changed < deque_capacity c.changed

-- the slot is noted, after the others; if an allocation was needed and refused, it may not be
pub record Notes (old new : Connections) (slot : ℕ) : Type 0 where
  pub noted : (changed_of new ≡ changed_of old ++ slot ∷ []) ⊎ (changed_of new ≡ changed_of old)
  pub with_room : HasRoomToNote old → changed_of new ≡ changed_of old ++ slot ∷ []
