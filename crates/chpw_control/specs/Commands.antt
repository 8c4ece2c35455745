-- The commands with their words, and the command of a line, which is given without its newline. The type of a command has the
-- type of its file as a parameter.
use Rattle.std.specs.Prelude.{ℕ, Bool, true, false, List, [], ◌∷◌, drop, codes, nat_eq, bytes_eq, if◌then◌else◌}
use Rattle.std.specs.Prelude.{Option, Some, None, Result, Ok, Err}
use Rattle.std.specs.List.{starts_with}
use Rattle.chpw_control.specs.declared.command.Command.{Command as CommandWith}
use Rattle.chpw_control.specs.declared.command.Command.TheVariants.{Status, Reload, ReopenLog, Stop, Compact}
use Rattle.chpw_control.specs.declared.fault.ControlFault.{ControlFault}
use Rattle.chpw_control.specs.declared.fault.ControlFault.TheVariants.{UnknownCommand, NoFile, BadFileName}
use Rattle.chpw_control.specs.FileNames.{is_file_name}

-- as a service takes it, with the name of a file
abbrev pub Command : Type 0
Command = CommandWith (List ℕ)

-- of which only the word is known
abbrev pub NamedCommand : Type 0
NamedCommand = CommandWith (Unit {0})

abbrev pub word_of : {F : Type 0} → CommandWith F → List ℕ
word_of Status = codes "status"
word_of Reload = codes "reload"
word_of ReopenLog = codes "reopen-log"
word_of Stop = codes "stop"
word_of (Compact file) = codes "compact"

-- the command that a word names
abbrev pub named : List ℕ → Option NamedCommand
named word =
    if bytes_eq word (codes "status") then Some Status
    else if bytes_eq word (codes "reload") then Some Reload
    else if bytes_eq word (codes "reopen-log") then Some ReopenLog
    else if bytes_eq word (codes "stop") then Some Stop
    else if bytes_eq word (codes "compact") then Some (Compact tt)
    else None

abbrev pub takes_file : {F : Type 0} → CommandWith F → Bool
takes_file (Compact file) = true
takes_file command = false

-- the file that it takes
abbrev pub file_of : {F : Type 0} → CommandWith F → Option F
file_of (Compact file) = Some file
file_of command = None

-- with this file: there is one exactly where it takes one
abbrev pub with_file : {F : Type 0} → NamedCommand → Option F → Option (CommandWith F)
with_file Status None = Some Status
with_file Reload None = Some Reload
with_file ReopenLog None = Some ReopenLog
with_file Stop None = Some Stop
with_file (Compact nothing) (Some file) = Some (Compact file)
with_file command file = None

-- `compact` and the name of a file
abbrev pub compact_of : List ℕ → Result Command ControlFault
compact_of [] = Err NoFile
compact_of (byte ∷ more) = if is_file_name (byte ∷ more) then Ok (Compact (byte ∷ more)) else Err BadFileName

-- a line that is more than a word
abbrev pub longer_of : List ℕ → Result Command ControlFault
longer_of line = if starts_with nat_eq line (codes "compact ") then compact_of (drop 8 line) else Err UnknownCommand

-- a line that is a word: `compact` lacks its file
abbrev pub whole_of : Option Command → Result Command ControlFault
whole_of (Some command) = Ok command
whole_of None = Err NoFile

abbrev pub of_line : Option NamedCommand → List ℕ → Result Command ControlFault
of_line (Some command) line = whole_of (with_file command None)
of_line None line = longer_of line

abbrev pub command_of : List ℕ → Result Command ControlFault
command_of line = of_line (named line) line
