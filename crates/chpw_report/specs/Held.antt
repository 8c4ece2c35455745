-- The table that is held: the opening of its configuration, with the changes of its journal replayed.
use Rattle.std.specs.Prelude.{◌≡◌, ℕ, negsuc, List, Option}
use Rattle.chpw_rules.specs.declared.config.Config.{Config}
use Rattle.chpw_table.specs.Agreement.{Agrees, Held}
use Rattle.chpw_table.specs.State.{State, opening_of}
use Rattle.chpw_journal.specs.declared.fault.RestoreFault.{RestoreFault}
use Rattle.chpw_journal.specs.declared.fault.RestoreFault.TheVariants.{Memory}
use Rattle.chpw_journal.specs.declared.restoring.Restored.{Restored}
use Rattle.chpw_journal.specs.Headings.{IsWholeRestored, IsWholeRefused}
use Rattle.chpw_journal.specs.JournalFile.{cut_of}
use Rattle.chpw_report.specs.declared.holding.HeldTable.{HeldTable}

-- no request is refused for its time: quiet until the second -1
abbrev pub opening : Config → State
opening config = opening_of config (negsuc 0)

-- a table that agrees with the opening, as the whole journal restores it; how many changes that has; after how many
-- bytes a torn record begins
pub record IsHeld (config : Config) (journal : Option (List ℕ)) (h : HeldTable) : Type 0 where
  pub before : Held
  pub opens : Agrees before.state (opening config)
  pub after : Restored
  pub read : IsWholeRestored before journal after
  pub table : h.table ≡ after.table
  pub changes : h.changes ≡ after.records
  pub torn : h.torn_after ≡ cut_of after

-- the journal's first fault, over such a table; or memory ran out
abbrev pub IsHeldFault : Config → Option (List ℕ) → RestoreFault → Type 0
IsHeldFault config journal Memory = Unit {0}
IsHeldFault config journal fault =
    (before : Held) × Agrees before.state (opening config) × IsWholeRefused before journal fault
