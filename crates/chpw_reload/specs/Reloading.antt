-- The result of a reload: a next table that agrees with the next state of a closed table and a renewed one, or a reason
-- why there is none.
use Rattle.std.specs.Prelude.{◌≡◌, ◌≢◌, ℕ, List, Option, false}
use Rattle.chpw_rules.specs.declared.name.Name.{Name}
use Rattle.chpw_rules.specs.declared.config.Config.{Config}
use Rattle.chpw_rules.specs.Fitting.{config_fits}
use Rattle.chpw_table.specs.Agreement.{Held, Agrees}
use Rattle.chpw_journal.specs.declared.fault.RestoreFault.{RestoreFault}
use Rattle.chpw_journal.specs.declared.restoring.Restored.{Restored}
use Rattle.chpw_journal.specs.Headings.{IsWholeRestored, IsWholeRefused}
use Rattle.chpw_journal.specs.JournalFile.{IsReadFrom, IsRefusedFrom}
use Rattle.chpw_report.specs.Held.{opening}
use Rattle.chpw_reload.specs.declared.fault.ReloadFault.{ReloadFault}
use Rattle.chpw_reload.specs.declared.fault.ReloadFault.TheVariants.{Realm, Journal, Keys, Limits, Memory}
use Rattle.chpw_reload.specs.declared.prepared_reload.PreparedReload.{PreparedReload}
use Rattle.chpw_reload.specs.declared.reloading.NextTable.{NextTable}
use Rattle.chpw_reload.specs.Reasons.{fault_of, fault_after}
use Rattle.chpw_reload.specs.Next.{settings_of, lacked, next_config, next_state}
use Rattle.chpw_reload.specs.Comparing.{HoldAlike, HoldApart, MayFollow}

-- a table that agrees with the file's opening, as all that a reader had of a journal restores it
pub record IsPrepared (file : Config) (journal : Option (List ℕ)) (r : PreparedReload) : Type 0 where
  pub before : Held
  pub opens : Agrees before.state (opening file)
  pub after : Restored
  pub read : IsWholeRestored before journal after
  pub table : r.table ≡ after.table
  pub records : r.records ≡ after.records
  pub kept : r.kept ≡ after.kept
  pub settings : r.settings ≡ settings_of file

-- the journal's first fault, over such a table; or memory ran out
abbrev pub IsUnprepared : Config → Option (List ℕ) → ReloadFault → Type 0
IsUnprepared file journal Memory = Unit {0}
IsUnprepared file journal fault =
    (before : Held) × (found : RestoreFault) × Agrees before.state (opening file)
    × IsWholeRefused before journal found × (fault ≡ fault_of found)

-- the rest of the journal is replayed, and the next table is made from that and the closed one
pub record IsReloaded (r : PreparedReload) (rest : Option (List ℕ)) (closed : Held) (next : NextTable) : Type 0 where
  pub renewed : Restored
  pub read : IsReadFrom r.table rest renewed
  pub may : MayFollow r.settings closed.state renewed.table.state
  pub table : Agrees next.table.state (next_state r.settings closed.state renewed.table.state)
  pub counts : (next.table.events ≡ 0) × (next.table.seen ≡ 0) × (next.table.max_entries ≡ r.settings.max_entries)
  pub lacked : next.lacked.items ≡ lacked closed.state renewed.table.state

-- the realm that is held, and another one of a configuration; or memory ran out
abbrev pub IsOfRealms : (held new : List ℕ) → ReloadFault → Type 0
IsOfRealms held new (Realm a b) = (a ≡ held) × (b ≡ new)
IsOfRealms held new Memory = Unit {0}
IsOfRealms held new fault = ⊥

-- the first reason: the realm; the journal's first fault, numbered in the whole of it; a name's keys; the limits
abbrev pub IsRefused : PreparedReload → Option (List ℕ) → Held → ReloadFault → Type 0
IsRefused r rest closed (Realm held new) = (closed.state.fixed.realm ≢ r.settings.realm)
    × (held ≡ closed.state.fixed.realm) × (new ≡ r.settings.realm)
IsRefused r rest closed (Journal fault) = (closed.state.fixed.realm ≡ r.settings.realm)
    × (found : RestoreFault) × IsRefusedFrom r.table rest found × (Journal fault ≡ fault_of (fault_after r.records found))
IsRefused r rest closed (Keys name) = (closed.state.fixed.realm ≡ r.settings.realm)
    × (renewed : Restored) × IsReadFrom r.table rest renewed × HoldApart closed.state renewed.table.state name
IsRefused r rest closed Limits = (closed.state.fixed.realm ≡ r.settings.realm)
    × (renewed : Restored) × IsReadFrom r.table rest renewed
    × ((name : Name) → HoldAlike closed.state renewed.table.state name)
    × (config_fits (next_config r.settings closed.state renewed.table.state) ≡ false)
IsRefused r rest closed Memory = Unit {0}
