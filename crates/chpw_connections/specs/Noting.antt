-- Which slots a call notes for the caller.
use Rattle.std.specs.Prelude.{◌≡◌, ℕ, zero, suc, ◌+◌, ◌<◌, ◌≤◌, ◌==◌, List, [], ◌∷◌, ◌++◌, length, Bool, not, ◌&&◌, Option, Some, None, if◌then◌else◌}
use Rattle.std.specs.List.{list_any}
use Rattle.std.specs.VecDeque.{deque_items, deque_len, deque_capacity}
use Rattle.std.specs.declared.collections.VecDeque.{VecDeque}
use Rattle.std.specs.declared.alloc.Global.{Global}
use Rattle.slab.specs.Slab.{Slab, get}
use Rattle.chpw_slots.specs.Orders.{Picks}
use Rattle.chpw_slots.specs.Waiting.{times}
use Rattle.chpw_connection.specs.Slot.{is_ended_in}
use Rattle.chpw_connection.specs.Confirming.{overdue_in}
use Rattle.chpw_connection.specs.Eviction.{gives_way_at}
use Rattle.chpw_connection.specs.declared.connection.Connection.{Connection}
use Rattle.chpw_connection.specs.declared.eviction.EvictionRule.{EvictionRule}
use Rattle.chpw_connections.specs.declared.set.Connections.{Connections}

-- the queue of the slots that are noted, with its room
abbrev pub noted_by : Connections → VecDeque ℕ Global
noted_by c = c.changed

-- this slot is one of them
abbrev pub is_noted_by : Connections → ℕ → Bool
is_noted_by c slot = list_any (λ other. other == slot) (deque_items c.changed)

-- for how many slots there is room in it
abbrev pub room_to_note : Connections → ℕ
room_to_note c = deque_capacity c.changed

-- these slots are noted, in this order, behind the others; if an allocation was needed and refused, some of them aren't
pub record NotesEach (old new : VecDeque ℕ Global) (slots : List ℕ) : Type 0 where
  pub kept : List ℕ
  pub few : Picks kept slots
  pub noted : deque_items new ≡ deque_items old ++ kept
  pub capacity : deque_capacity old ≤ deque_capacity new
  pub with_room : deque_len old + length slots ≤ deque_capacity old → deque_items new ≡ deque_items old ++ slots

-- this slot, if so
abbrev pub slot_if : Bool → ℕ → List ℕ
slot_if is slot = if is then slot ∷ [] else []

-- those below this one whose connections pass a test, in order
abbrev pub slots_below : (Option Connection → Bool) → Slab Connection → ℕ → List ℕ
slots_below test slots zero = []
slots_below test slots (suc n) = slots_below test slots n ++ slot_if (test (get slots n)) n

-- all whose connections pass a test, in order
abbrev pub slots_where : (Option Connection → Bool) → Slab Connection → List ℕ
slots_where test slots = slots_below test slots slots.capacity

-- the first slot whose reply has waited for this long for this ticket
pub record IsFirstOverdue (wait now : ℕ) (slots : Slab Connection) (ticket slot : ℕ) : Type 0 where
  pub overdue : overdue_in wait now (get slots slot) ≡ Some ticket
  pub first : (other : ℕ) → other < slot → overdue_in wait now (get slots other) ≡ None

-- it gave way, and was ended
abbrev pub was_put_out : EvictionRule → Option Connection → Option Connection → Bool
was_put_out who old new = gives_way_at who old && is_ended_in new

-- each other one that was ended to make room, once, and no other
abbrev pub EachPutOut : EvictionRule → Slab Connection → Slab Connection → ℕ → List ℕ → Type 0
EachPutOut who old new slot ends =
    (k : ℕ) → times k ends ≡ (if not (k == slot) && was_put_out who (get old k) (get new k) then 1 else 0)

-- each other one that was ended to make room is noted once, and then these slots
pub record NotesEnds (who : EvictionRule) (old new : Slab Connection) (slot : ℕ) (before after : VecDeque ℕ Global) (own : List ℕ) : Type 0 where
  pub ends : List ℕ
  pub each : EachPutOut who old new slot ends
  pub notes : NotesEach before after (ends ++ own)
