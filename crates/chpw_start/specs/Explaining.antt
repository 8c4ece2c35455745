-- What a journal says at its fault.
use Rattle.std.specs.Prelude.{◌≡◌, ℕ, List, Option, Ok}
use Rattle.chpw_rules.specs.declared.config.Config.{Config}
use Rattle.chpw_table.specs.Agreement.{Agrees, Held}
use Rattle.chpw_report.specs.Held.{opening}
use Rattle.chpw_journal.specs.Explaining.{IsExplained}
use Rattle.chpw_journal.specs.declared.explaining.Explanation.{Explanation}
use Rattle.chpw_journal.specs.declared.fault.RestoreFault.{RestoreFault}
use Rattle.chpw_start.specs.Faults.{Sets}

-- told of these bytes of a journal, over a table that agrees with a configuration's opening
abbrev pub IsExplainedOf : Config → Option (List ℕ) → RestoreFault → Explanation → Type 0
IsExplainedOf config journal fault explanation =
    (before : Held) × Agrees before.state (opening config) × IsExplained before journal fault explanation

-- of some bytes, over the configuration that these bytes set; no contract says which bytes a file has
abbrev pub IsExplainedBy : List ℕ → RestoreFault → Explanation → Type 0
IsExplainedBy bytes fault explanation =
    (config : Config) × (journal : Option (List ℕ)) × Sets bytes (Ok config) × IsExplainedOf config journal fault explanation
