-- What `control` says to a running service, and how it ends by the service's answer.
use Rattle.std.specs.Prelude.{◌++◌, ◌==◌, ℕ, Bool, false, List, [], length, codes, if◌then◌else◌}
use Rattle.std.specs.List.{list_any}
use Rattle.std.specs.Option.{option_map_or}
use Rattle.chpw_control.specs.Answers.{ended_ok}
use Rattle.chpw_invocation.specs.Controls.{ControlCommand, file_of, word_of}
use Rattle.chpw_endings.specs.declared.ending.Ending.{Ending}
use Rattle.chpw_commands.specs.declared.drill.DrillFault.TheVariants.{Memory, Write}
use Rattle.chpw_endings.specs.declared.ending.Ending.TheVariants.{Good, Early, Unanswered, Refused}

-- the line of a command: its word and, after a space, its file if it has one
abbrev pub line_of : ControlCommand → List ℕ
line_of command = word_of command ++ option_map_or (λ file. codes " " ++ file) (file_of command) [] ++ codes "\n"

-- a newline (10) in its file, which no line can have
abbrev pub is_broken : ControlCommand → Bool
is_broken command = option_map_or (λ file. list_any (λ b. b == 10) file) (file_of command) false

-- how it ends by an answer
abbrev pub ending_by : List ℕ → Ending
ending_by answer = if length answer == 0 then Unanswered else if ended_ok answer then Good else Refused

-- an ending that only an answer gives
abbrev pub IsAnswered : Ending → Type 0
IsAnswered Good = Unit {0}
IsAnswered Refused = Unit {0}
IsAnswered _ = ⊥

-- an answer couldn't be printed, or not be held for that
abbrev pub IsUnprinted : Ending → Type 0
IsUnprinted (Early Memory) = Unit {0}
IsUnprinted (Early Write) = Unit {0}
IsUnprinted _ = ⊥
