-- What a connection's bytes give: the command of their first line or its fault, once.
use Rattle.std.specs.Prelude.{ℕ, Bool, true, not, ◌==◌, ◌&&◌, nat_le, if◌then◌else◌, List, [], ◌++◌, length, Option, Some, None, Result, Err}
use Rattle.std.specs.List.{before_first, list_any}
use Rattle.chpw_control.specs.declared.fault.ControlFault.{ControlFault}
use Rattle.chpw_control.specs.declared.fault.ControlFault.TheVariants.{LineTooLong}
use Rattle.chpw_control.specs.Commands.{Command, command_of}

abbrev pub is_newline : ℕ → Bool
is_newline byte = byte == 10

-- all that stands before the first newline
abbrev pub line_in : List ℕ → List ℕ
line_in bytes = before_first is_newline bytes

-- a line has at most 4,200 bytes, without its newline
abbrev pub is_short : List ℕ → Bool
is_short bytes = nat_le (length (line_in bytes)) 4200

abbrev pub is_whole : List ℕ → Bool
is_whole bytes = list_any is_newline bytes

-- what all the bytes that came give: the command of their first line, or a fault; nothing while the line goes on
abbrev pub told_of : List ℕ → Option (Result Command ControlFault)
told_of bytes =
    if not (is_short bytes) then Some (Err LineTooLong)
    else if is_whole bytes then Some (command_of (line_in bytes))
    else None

-- what came of the line, until a command or a fault is given
abbrev pub State : Type 0
State = Option (List ℕ)

abbrev pub at_start : State
at_start = Some []

abbrev pub goes_on : List ℕ → Bool
goes_on bytes = is_short bytes && not (is_whole bytes)

abbrev pub after_bytes : State → List ℕ → State
after_bytes None bytes = None
after_bytes (Some heard) bytes = if goes_on (heard ++ bytes) then Some (heard ++ bytes) else None

abbrev pub told_by : State → List ℕ → Option (Result Command ControlFault)
told_by None bytes = None
told_by (Some heard) bytes = told_of (heard ++ bytes)

-- the line isn't complete, and no more is heard
abbrev pub told_at_end : State → ControlFault → Option ControlFault
told_at_end None fault = None
told_at_end (Some heard) fault = Some fault

-- what a dialogue holds is a line that goes on
abbrev pub is_held : State → Bool
is_held None = true
is_held (Some heard) = goes_on heard
