-- What holds of all that can happen on a connection.
use Rattle.std.specs.Prelude.{◌≡◌, ℕ, ◌≤◌, false, List, [], ◌∷◌, ◌++◌, map, length, codes, Option, None, option_map, option_to_list, Result, Ok, Err}
use Rattle.std.specs.List.{concat}
use Rattle.chpw_control.specs.declared.fault.ControlFault.{ControlFault}
use Rattle.chpw_control.specs.declared.fault.ControlFault.TheVariants.{NoWholeLine, Late}
use Rattle.chpw_control.specs.Commands.{Command, command_of}
use Rattle.chpw_control.specs.Dialogs.{State, at_start, after_bytes, told_by, told_at_end, told_of, is_whole}

-- the other side sends bytes, it ends, its time is up
pub data Event : Type 0 where
  says : List ℕ → Event
  ends : Event
  expires : Event

abbrev pub behind : State → Event → State
behind s (says bytes) = after_bytes s bytes
behind s ends = None
behind s expires = None

abbrev pub told : State → Event → Option (Result Command ControlFault)
told s (says bytes) = told_by s bytes
told s ends = option_map (λ fault. Err fault) (told_at_end s NoWholeLine)
told s expires = option_map (λ fault. Err fault) (told_at_end s Late)

-- all commands and faults that it gives, in order
abbrev pub told_from : State → List Event → List (Result Command ControlFault)
told_from s [] = []
told_from s (e ∷ es) = option_to_list (told s e) ++ told_from (behind s e) es

abbrev pub told_in : List Event → List (Result Command ControlFault)
told_in events = told_from at_start events

-- a connection gives one command, or one fault, or neither
abbrev pub Once : Type 0
Once = (events : List Event) → length (told_in events) ≤ 1

-- the pieces in which bytes come make no difference
abbrev pub Piecewise : Type 0
Piecewise = (pieces : List (List ℕ)) → told_in (map says pieces) ≡ option_to_list (told_of (concat pieces))

-- before anything else the other side sent the command's whole line, and then its newline
pub record IsItsLine (events : List Event) (command : Command) : Type 0 where
  pub pieces : List (List ℕ)
  pub later : List Event
  pub line : List ℕ
  pub rest : List ℕ
  pub parts : events ≡ map says pieces ++ later
  pub said : concat pieces ≡ line ++ codes "\n" ++ rest
  pub no_newline : is_whole line ≡ false
  pub few : length line ≤ 4200
  pub asks : command_of line ≡ Ok command

-- a command comes only from its whole line
abbrev pub OnlyItsLine : Type 0
OnlyItsLine = (events : List Event) (command : Command) → told_in events ≡ Ok command ∷ [] → IsItsLine events command
