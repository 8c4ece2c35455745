-- What `table` prints, and why it may not.
use Rattle.std.specs.Prelude.{◌≡◌, ◌⊎◌, ℕ, List, Option, Ok}
use Rattle.chpw_config.specs.Settings.{settings_of}
use Rattle.chpw_rules.specs.declared.config.Config.{Config}
use Rattle.chpw_report.specs.declared.form.Form.TheVariants as told_as
use Rattle.chpw_report.specs.Reports.{report}
use Rattle.chpw_report.specs.declared.holding.HeldTable.{HeldTable}
use Rattle.chpw_report.specs.Configurations.{config_held}
use Rattle.chpw_report.specs.Held.{IsHeld}
use Rattle.chpw_invocation.specs.declared.invocation.TableForm.{TableForm}
use Rattle.chpw_invocation.specs.declared.invocation.TableForm.TheVariants.{Lines, Configuration, Keys}
use Rattle.chpw_invocation.specs.declared.invocation.TableOptions.{TableOptions}
use Rattle.chpw_start.specs.declared.fault.ServeFault.{ServeFault}
use Rattle.chpw_start.specs.Faults.{IsOfBytes, IsOfSettings, IsOfJournal, IsLate, Sets}

-- a report of the table, or a text that is read as the configuration with what the table holds
abbrev pub IsTold : TableForm → Config → HeldTable → List ℕ → Type 0
IsTold Lines config h text = text ≡ report told_as.Lines config.realm h.table h.changes
IsTold Keys config h text = text ≡ report told_as.Keys config.realm h.table h.changes
IsTold Configuration config h text = settings_of text ≡ Ok (config_held h.table.state config)

-- of the configuration that these bytes set, with a journal's changes
pub record TellsOf (bytes : List ℕ) (form : TableForm) (torn : Option ℕ) (text : List ℕ) : Type 0 where
  pub config : Config
  pub sets : Sets bytes (Ok config)
  pub journal : Option (List ℕ)
  pub held : HeldTable
  pub holds : IsHeld config journal held
  pub behind : torn ≡ held.torn_after
  pub told : IsTold form config held text

-- of some configuration; no contract says which bytes a file has
abbrev pub Tells : TableForm → Option ℕ → List ℕ → Type 0
Tells form torn text = (bytes : List ℕ) × TellsOf bytes form torn text

-- a fault of these bytes of a configuration, or of the journal at a path, or one after both are read
abbrev pub IsOfText : List ℕ → List ℕ → ServeFault → Type 0
IsOfText bytes journal fault = IsOfBytes bytes fault ⊎ (IsOfJournal journal fault ⊎ IsLate fault)

-- a fault of its configuration or its journal, or one after both are read
abbrev pub IsOfTable : TableOptions → ServeFault → Type 0
IsOfTable o fault = IsOfSettings o.config.now fault ⊎ (IsOfJournal o.journal.now fault ⊎ IsLate fault)
