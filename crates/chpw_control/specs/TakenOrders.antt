-- An order that is being carried out: its command, and the slot and the number of the caller who gave it; and how long that
-- caller stays.
use Rattle.std.specs.Prelude.{◌≡◌, ℕ, Bool, true, false, not, ◌==◌, List, [], ◌∷◌, Option, Some, None}
use Rattle.std.specs.List.{list_all}
use Rattle.chpw_control.specs.Callers.{Stage, served, Event, told, after, is_over}
use Rattle.chpw_control.specs.declared.callers.Seat.{Seat}
use Rattle.chpw_control.specs.declared.callers.TakenOrder.{TakenOrder}
use Rattle.chpw_control.specs.Commands.{Command}

abbrev pub command_in : TakenOrder → Command
command_in o = o.command

abbrev pub slot_of : TakenOrder → ℕ
slot_of o = o.slot

abbrev pub number_of : TakenOrder → ℕ
number_of o = o.number

-- the caller in a slot is the one with this number
abbrev pub is_numbered : ℕ → Option Seat → Bool
is_numbered number None = false
is_numbered number (Some s) = s.number == number

abbrev pub is_answer : Event → Bool
is_answer (told answer) = true
is_answer event = false

-- one event after the other
abbrev pub after_all : Stage → List Event → Stage
after_all stage [] = stage
after_all stage (e ∷ es) = after_all (after stage e) es

-- a caller whose command is being carried out is not finished before its answer, whatever else happens
abbrev pub StaysForItsAnswer : Type 0
StaysForItsAnswer = (events : List Event) → list_all (λ e. not (is_answer e)) events ≡ true → is_over (after_all served events) ≡ false
