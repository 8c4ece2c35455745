-- A command for a running service, as the command line gives it: its file is a text.
use Rattle.std.specs.Prelude.{Bool, List, ℕ, Option, option_map}
use Rattle.std.specs.Borrow.{Bor}
use Rattle.clap.specs.Walk.{Text}
use Rattle.chpw_control.specs.Commands as commands
use Rattle.chpw_control.specs.declared.command.Command.{Command}

abbrev pub ControlCommand : Type 0
ControlCommand = Command (Bor (List ℕ))

-- the word that names it
abbrev pub word_of : ControlCommand → Text
word_of command = commands.word_of command

-- the file that it takes
abbrev pub file_of : ControlCommand → Option Text
file_of command = option_map (λ file. file.now) (commands.file_of command)

-- whether the command that a word names takes a file; none if it names no command
abbrev pub takes_file : Text → Option Bool
takes_file word = option_map (λ command. commands.takes_file command) (commands.named word)
