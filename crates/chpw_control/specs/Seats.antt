-- The callers at the control socket, each in a slot of its own. Moments are milliseconds.
use Rattle.std.specs.Prelude.{◌≡◌, ◌≢◌, ℕ, ◌≤◌, ◌+◌, ◌-◌, List, [], Bool, true, false, nat_le, ◌&&◌, Option, Some, None, MatchOption, if◌then◌else◌}
use Rattle.slab.specs.Slab.{Slab, get}
use Rattle.chpw_control.specs.Commands.{Command}
use Rattle.chpw_control.specs.declared.command.Command.TheVariants.{Status, Reload, ReopenLog, Stop, Compact}
use Rattle.chpw_control.specs.Callers.{Stage, asking, waiting, answered, Event, after, waiting_in, left_of, Hears, is_over}
use Rattle.chpw_control.specs.declared.callers.Seat.{Seat}
use Rattle.chpw_control.specs.declared.callers.Callers.{Callers}

-- the callers by their slots
abbrev pub seats_of : Callers → Slab Seat
seats_of c = c.seats

-- the slot of the caller whose order is being carried out
abbrev pub ordering_of : Callers → Option ℕ
ordering_of c = c.ordering

-- how many were accepted: the number of the next one
abbrev pub accepted_of : Callers → ℕ
accepted_of c = c.accepted

-- how many were accepted, and for how many there is room, stays
abbrev pub AreKept : Callers → Callers → Type 0
AreKept old new = (new.accepted ≡ old.accepted) × (new.seats.capacity ≡ old.seats.capacity)

-- what is carried out beside the reactor, one at a time
abbrev pub is_order : Command → Bool
is_order Status = false
is_order Stop = false
is_order Reload = true
is_order ReopenLog = true
is_order (Compact file) = true

-- the command of a caller that waits, of this kind
abbrev pub waiting_by : Bool → Stage → Option Command
waiting_by order (waiting command) = kept (is_order command) order
  where
    kept : Bool → Bool → Option Command
    kept true true = Some command
    kept false false = Some command
    kept is wanted = None
waiting_by order stage = None

abbrev pub waiting_at : Bool → Option Seat → Option Command
waiting_at order None = None
waiting_at order (Some s) = waiting_by order s.caller

-- the command of a caller that waits, of either kind
abbrev pub waiting_of : Option Seat → Option Command
waiting_of None = None
waiting_of (Some s) = waiting_in s.caller

-- the number of a caller that waits so, in the order of their accepts
abbrev pub number_at : Bool → Option Seat → Option ℕ
number_at order None = None
number_at order (Some s) = of (waiting_by order s.caller)
  where
    of : Option Command → Option ℕ
    of None = None
    of (Some command) = Some s.number

abbrev pub number_in : Slab Seat → Bool → ℕ → Option ℕ
number_in seats order slot = number_at order (get seats slot)

-- of all that wait so, this one was accepted first
abbrev pub IsFirst : Slab Seat → Bool → ℕ → Type 0
IsFirst seats order slot = (number : ℕ) × (number_in seats order slot ≡ Some number)
    × ((other n : ℕ) → number_in seats order other ≡ Some n → number ≤ n)

abbrev pub NobodyWaits : Slab Seat → Bool → Type 0
NobodyWaits seats order = (slot : ℕ) → number_in seats order slot ≡ None

-- the event happened to the caller in this slot, if there is one
abbrev pub Comes : Event → Option Seat → Option Seat → Type 0
Comes event old new = MatchOption old (new ≡ None) (λ s. new ≡ Some (record s { caller = after s.caller event }))

-- the event happened in this slot, and the others are unchanged
pub record Happens (old new : Slab Seat) (slot : ℕ) (event : Event) : Type 0 where
  pub here : Comes event (get old slot) (get new slot)
  pub others : (other : ℕ) → other ≢ slot → get new other ≡ get old other

-- bytes of its line came, unless there was no memory for them
abbrev pub Heard : Option Seat → Option Seat → List ℕ → Type 0
Heard old new bytes = MatchOption old (new ≡ None) (λ s. (c : Stage) × (new ≡ Some (record s { caller = c })) × Hears s.caller c bytes)

pub record HappensToHear (old new : Slab Seat) (slot : ℕ) (bytes : List ℕ) : Type 0 where
  pub here : Heard (get old slot) (get new slot) bytes
  pub others : (other : ℕ) → other ≢ slot → get new other ≡ get old other

-- a caller that was accepted at this moment
pub record IsNew (now number : ℕ) (old new : Slab Seat) (slot : ℕ) (start : Stage) : Type 0 where
  pub free : get old slot ≡ None
  pub here : get new slot ≡ Some (record { caller = start; since = now; number = number })
  pub others : (other : ℕ) → other ≢ slot → get new other ≡ get old other

-- what is left to write
abbrev pub left_at : Option Seat → List ℕ
left_at None = []
left_at (Some s) = left_of s.caller

abbrev pub is_asking : Stage → Bool
is_asking (asking s) = true
is_asking stage = false

-- its line isn't complete a second after its accept
abbrev pub is_late : ℕ → Option Seat → Bool
is_late now None = false
is_late now (Some s) = is_asking s.caller && nat_le 1000 (now - s.since)

abbrev pub is_over_at : Option Seat → Bool
is_over_at None = false
is_over_at (Some s) = is_over s.caller

-- the earlier of two
abbrev pub earlier : Option (ℕ × ℕ) → ℕ → Option ℕ → Option (ℕ × ℕ)
earlier first slot None = first
earlier None slot (Some number) = Some (number, slot)
earlier (Some f) slot (Some number) = if nat_le f.0 number then Some f else Some (number, slot)
