-- What was done for the words of a command line.
use Rattle.std.proofs.Common.{◌≡◌, ◌⊎◌, ℕ, List, Some, None, Result, Ok, Err, OnOk}
use Rattle.clap.specs.Words.{subcommand_of}
use Rattle.chpw_invocation.specs.Invocations.{AsksFor}
use Rattle.chpw_invocation.specs.Program.{program}
use Rattle.chpw_invocation.specs.declared.invocation.Invocation.{Invocation}
use Rattle.chpw_invocation.specs.declared.invocation.Invocation.TheVariants.{Serve}
use Rattle.chpw_invocation.specs.declared.invocation.ServeOptions.{ServeOptions}
use Rattle.chpw_commands.specs.declared.drill.DrillFault.TheVariants.{Memory}
use Rattle.chpw_service.specs.WholeRuns.{IsWholeRun}
use Rattle.chpw_start.specs.declared.fault.ServeFault.{ServeFault}
use Rattle.chpw_logging.specs.declared.logging.LogLines.{LogLines}
use Rattle.chpw_endings.specs.Endings.{ending_served}
use Rattle.chpw_program.specs.Running.{HasDone, IsRunBy}
use Rattle.chpw_endings.specs.declared.ending.Ending.{Ending}
use Rattle.chpw_endings.specs.declared.ending.Ending.TheVariants.{Early, Misused}

pub run_by : (R : Type 0) (words : List (List ℕ)) (asked : Invocation) (ending : Ending) → AsksFor (subcommand_of program words) asked
    → HasDone R asked ending → IsRunBy R words ending
run_by R words asked ending by done = record { asked = Some asked; by = by; done = done; none = tt }

pub run_by_none : (R : Type 0) (words : List (List ℕ)) (ending : Ending) → (ending ≡ Misused) ⊎ (ending ≡ Early Memory) → IsRunBy R words ending
run_by_none R words ending none = record { asked = None; by = tt; done = tt; none = none }

pub has_served : {T : Type 0} (R : Type 0) (options : ServeOptions) (ended : Result T ServeFault)
    → OnOk ended (IsWholeRun R (LogLines R) options) → HasDone R (Serve options) (ending_served ended)
has_served R options (Ok x) run = run
has_served R options (Err fault) run = tt
