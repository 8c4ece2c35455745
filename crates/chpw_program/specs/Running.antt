-- What the program has done when it ends.
use Rattle.std.specs.Prelude.{◌≡◌, ◌⊎◌, ℕ, List, Option, IfSome, IfNone}
use Rattle.clap.specs.Words.{subcommand_of}
use Rattle.chpw_invocation.specs.Invocations.{AsksFor}
use Rattle.chpw_invocation.specs.Program.{program}
use Rattle.chpw_invocation.specs.declared.invocation.Invocation.{Invocation}
use Rattle.chpw_invocation.specs.declared.invocation.Invocation.TheVariants.{Check, Serve}
use Rattle.chpw_commands.specs.declared.drill.DrillFault.TheVariants.{Memory}
use Rattle.chpw_service.specs.WholeRuns.{IsWholeRun}
use Rattle.chpw_logging.specs.declared.logging.LogLines.{LogLines}
use Rattle.chpw_endings.specs.Checking.{HasChecked}
use Rattle.chpw_endings.specs.declared.ending.Ending.{Ending}
use Rattle.chpw_endings.specs.declared.ending.Ending.TheVariants.{Early, Good, Misused}

-- a service that ended well has had a whole run with its options, and a check tells what came of its file
abbrev pub HasDone : Type 0 → Invocation → Ending → Type 0
HasDone R (Serve options) Good = IsWholeRun R (LogLines R) options
HasDone R (Serve options) ending = Unit {0}
HasDone R (Check file) ending = HasChecked file.now ending
HasDone R asked ending = Unit {0}

-- the words of a command line ask for a command, which was done; or for none, and then nothing was
pub record IsRunBy (R : Type 0) (words : List (List ℕ)) (ending : Ending) : Type 0 where
  pub asked : Option Invocation
  pub by : IfSome asked (AsksFor (subcommand_of program words))
  pub done : IfSome asked (λ (i : Invocation). HasDone R i ending)
  pub none : IfNone asked ((ending ≡ Misused) ⊎ (ending ≡ Early Memory))
