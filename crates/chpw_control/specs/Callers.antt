-- The stage of a caller at the control socket, and what happens to it.
use Rattle.std.specs.Prelude.{◌≡◌, ◌⊎◌, ℕ, ◌==◌, Bool, true, false, List, [], ◌++◌, length, drop, codes, Option, Some, None, Result, Ok, Err, if◌then◌else◌}
use Rattle.chpw_control.specs.Commands.{Command}
use Rattle.chpw_control.specs.declared.fault.ControlFault.{ControlFault}
use Rattle.chpw_control.specs.declared.fault.ControlFault.TheVariants.{NoWholeLine, Late, Memory}
use Rattle.chpw_control.specs.Dialogs.{State, at_start, after_bytes, told_by, told_at_end}
use Rattle.chpw_control.specs.Faults.{fault_text}
use Rattle.chpw_control.specs.declared.caller.Phase.{Phase}
use Rattle.chpw_control.specs.declared.caller.Phase.TheVariants as phase
use Rattle.chpw_control.specs.declared.caller.Text.{Text}
use Rattle.chpw_control.specs.declared.caller.Text.TheVariants as text

-- This has come of its line; its command waits to be carried out; it is being carried out; these bytes of its answer
-- are left to write; it is gone while its command is carried out; it is finished
pub data Stage : Type 0 where
  asking : State → Stage
  waiting : Command → Stage
  served : Stage
  answered : List ℕ → Stage
  deserted : Stage
  over : Stage

-- bytes came; there was no memory for them; it will send no more; its time for the line is up; its command is being
-- carried out from now on; this is its answer; this many bytes of that were written; it can't go on
pub data Event : Type 0 where
  came : List ℕ → Event
  lacked : Event
  closed : Event
  expired : Event
  taken : Event
  told : List ℕ → Event
  wrote : ℕ → Event
  failed : Event

abbrev pub error_line : ControlFault → List ℕ
error_line fault = codes "error: " ++ (fault_text fault ++ codes "\n")

-- the stage after what all the bytes that came give
abbrev pub told_to : State → Option (Result Command ControlFault) → Stage
told_to s None = asking s
told_to s (Some (Ok command)) = waiting command
told_to s (Some (Err fault)) = answered (error_line fault)

-- its line ended before it was complete
abbrev pub ended_to : State → Option ControlFault → Stage
ended_to s None = asking s
ended_to s (Some fault) = answered (error_line fault)

abbrev pub is_out : List ℕ → Bool
is_out left = length left == 0

abbrev pub written_to : List ℕ → Stage
written_to left = if is_out left then over else answered left

abbrev pub after : Stage → Event → Stage
after (asking s) (came bytes) = told_to (after_bytes s bytes) (told_by s bytes)
after (asking s) lacked = answered (error_line Memory)
after (asking s) closed = ended_to s (told_at_end s NoWholeLine)
after (asking s) expired = ended_to s (told_at_end s Late)
after (asking s) failed = over
after (waiting command) taken = served
after (waiting command) failed = over
after served (told answer) = answered answer
after served failed = deserted
after (answered left) (wrote n) = written_to (drop n left)
after (answered left) failed = over
after deserted (told answer) = over
after stage event = stage

abbrev pub left_of : Stage → List ℕ
left_of (answered left) = left
left_of stage = []

abbrev pub waiting_in : Stage → Option Command
waiting_in (waiting command) = Some command
waiting_in stage = None

abbrev pub bytes_of : Text → List ℕ
bytes_of (text.Fault fault) = error_line fault
bytes_of (text.Given answer) = answer.items

abbrev pub stage_of : Phase → Stage
stage_of (phase.Asking dialog) = asking dialog
stage_of (phase.Waiting command) = waiting command
stage_of phase.Served = served
stage_of (phase.Answered a) = answered (drop a.written (bytes_of a.text))
stage_of phase.Deserted = deserted
stage_of phase.Over = over

-- unless there was no memory for the line
abbrev pub Hears : Stage → Stage → List ℕ → Type 0
Hears old new bytes = (new ≡ after old (came bytes)) ⊎ (new ≡ after old lacked)

abbrev pub is_over : Stage → Bool
is_over over = true
is_over stage = false

abbrev pub refused_with : ControlFault → Phase
refused_with fault = phase.Answered (record { text = text.Fault fault; written = 0 })
