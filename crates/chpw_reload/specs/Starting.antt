-- For proofs alone: what a next table starts as, before it takes over what the closed one has used.
use Rattle.std.specs.Prelude.{◌≡◌, ◌≤◌, ◌^◌, ℕ, List, length, Option, true, false}
use Rattle.chpw_rules.specs.declared.name.Name.{Name}
use Rattle.chpw_rules.specs.declared.config.Config.{Config}
use Rattle.chpw_rules.specs.Fitting.{config_fits}
use Rattle.chpw_table.specs.State.{State, opening_of}
use Rattle.chpw_table.specs.Agreement.{Agrees}
use Rattle.chpw_journal.specs.declared.restoring.Restored.{Restored}
use Rattle.chpw_journal.specs.JournalFile.{IsReadFrom}
use Rattle.chpw_reload.specs.declared.fault.ReloadFault.{ReloadFault}
use Rattle.chpw_reload.specs.declared.fault.ReloadFault.TheVariants.{Realm, Journal, Keys, Limits, Memory}
use Rattle.chpw_reload.specs.declared.prepared_reload.PreparedReload.{PreparedReload}
use Rattle.chpw_reload.specs.declared.reloading.NextTable.{NextTable}
use Rattle.chpw_reload.specs.Next.{lacked, next_config}
use Rattle.chpw_reload.specs.Comparing.{HoldAlike, HoldApart}

-- the next configuration's table, over this renewed one
pub record IsStarted (settings : Config) (closed renewed : State) (next : NextTable) : Type 0 where
  pub keys : (name : Name) → HoldAlike closed renewed name
  pub fits : config_fits (next_config settings closed renewed) ≡ true
  pub table : Agrees next.table.state (opening_of (next_config settings closed renewed) closed.fixed.quiet_until)
  pub counts : (next.table.events ≡ 0) × (next.table.seen ≡ 0) × (next.table.max_entries ≡ settings.max_entries)
  pub lacked : next.lacked.items ≡ lacked closed renewed
  pub few : length closed.used ≤ 2 ^ 31

-- and over a renewed table that the rest of the journal gives
pub record IsStartedFrom (r : PreparedReload) (rest : Option (List ℕ)) (closed : State) (next : NextTable) : Type 0 where
  pub realm : closed.fixed.realm ≡ r.settings.realm
  pub renewed : Restored
  pub read : IsReadFrom r.table rest renewed
  pub started : IsStarted r.settings closed renewed.table.state next

-- a reason over a renewed table
abbrev pub IsRefusedOver : Config → State → State → ReloadFault → Type 0
IsRefusedOver settings closed renewed (Keys name) = HoldApart closed renewed name
IsRefusedOver settings closed renewed Limits = ((name : Name) → HoldAlike closed renewed name)
    × (config_fits (next_config settings closed renewed) ≡ false)
IsRefusedOver settings closed renewed Memory = Unit {0}
IsRefusedOver settings closed renewed (Realm held new) = ⊥
IsRefusedOver settings closed renewed (Journal fault) = ⊥
