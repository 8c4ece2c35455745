-- A reload, seen from the histories on both sides of it: what the one before left, and what the next opens with.
use Rattle.std.specs.Prelude.{List}
use Rattle.chpw_rules.specs.declared.config.Config.{Config}
use Rattle.chpw_table.specs.State.{State}
use Rattle.chpw_table.specs.Agreement.{Agrees}
use Rattle.chpw_record.specs.declared.record.Record.{Record}
use Rattle.chpw_journal.specs.JournalText.{restored, AreNext}
use Rattle.chpw_report.specs.Held.{opening}
use Rattle.chpw_reload.specs.Next.{settings_of, next_state}
use Rattle.chpw_reload.specs.Comparing.{MayFollow}

-- the new file's table, with these records of the journal replayed
pub record IsRenewed (file : Config) (records : List Record) (renewed : State) : Type 0 where
  pub next : AreNext (opening file) records
  pub table : Agrees renewed (restored (opening file) records)

-- the next history opens with the next state of a closed table and a renewed one
pub record IsReload (file : Config) (records : List Record) (left next : State) : Type 0 where
  pub closed : State
  pub renewed : State
  pub is_left : Agrees closed left
  pub is_renewed : IsRenewed file records renewed
  pub may : MayFollow (settings_of file) closed renewed
  pub opens : Agrees next (next_state (settings_of file) closed renewed)
