-- What a next table starts as, and what it is once it goes on from the closed one.
use Rattle.std.proofs.Common.{◌≡◌, ℕ, List, Option, Result, Ok, Err, refl, sym, ◌∙◌, ap, subst}
use Rattle.std.specs.Prelude.{IfOk, IfErr}
use Rattle.chpw_rules.specs.declared.config.Config.{Config}
use Rattle.chpw_table.specs.State.{State, opening_of}
use Rattle.chpw_table.specs.Agreement.{Held, Agrees}
use Rattle.chpw_journal.specs.declared.fault.RestoreFault.{RestoreFault}
use Rattle.chpw_journal.specs.declared.fault.RestoreFault.TheVariants as journal
use Rattle.chpw_journal.specs.declared.restoring.Restored.{Restored}
use Rattle.chpw_journal.specs.JournalFile.{IsReadFrom, IsRefusedFrom}
use Rattle.chpw_reload.specs.declared.fault.ReloadFault.{ReloadFault}
use Rattle.chpw_reload.specs.declared.fault.ReloadFault.TheVariants.{Realm, Journal, Keys, Limits, Memory}
use Rattle.chpw_reload.specs.declared.prepared_reload.PreparedReload.{PreparedReload}
use Rattle.chpw_reload.specs.declared.reloading.NextTable.{NextTable}
use Rattle.chpw_reload.specs.Next.{next_config, next_state}
use Rattle.chpw_reload.specs.Reasons.{fault_of, fault_after}
use Rattle.chpw_reload.specs.Reloading.{IsRefused, IsReloaded}
use Rattle.chpw_reload.specs.Starting.{IsStarted, IsStartedFrom, IsRefusedOver}

pub started_from : (r : PreparedReload) (rest : Option (List ℕ)) (closed : State) (renewed : Restored) (result : Result NextTable ReloadFault)
    → closed.fixed.realm ≡ r.settings.realm → IsReadFrom r.table rest renewed
    → IfOk result (IsStarted r.settings closed renewed.table.state) → IfOk result (IsStartedFrom r rest closed)
started_from r rest closed renewed (Ok next) realm read h = record { realm = realm; renewed = renewed; read = read; started = h }
started_from r rest closed renewed (Err fault) realm read h = h

refused_of : (r : PreparedReload) (rest : Option (List ℕ)) (closed : Held) (renewed : Restored) (fault : ReloadFault)
    → closed.state.fixed.realm ≡ r.settings.realm → IsReadFrom r.table rest renewed
    → IsRefusedOver r.settings closed.state renewed.table.state fault → IsRefused r rest closed fault
refused_of r rest closed renewed (Realm held new) realm read h = absurd h
refused_of r rest closed renewed (Journal fault) realm read h = absurd h
refused_of r rest closed renewed (Keys name) realm read h = (realm, renewed, read, h)
refused_of r rest closed renewed Limits realm read h = (realm, renewed, read, h.0, h.1)
refused_of r rest closed renewed Memory realm read h = tt

pub refused_over : (r : PreparedReload) (rest : Option (List ℕ)) (closed : Held) (renewed : Restored) (result : Result NextTable ReloadFault)
    → closed.state.fixed.realm ≡ r.settings.realm → IsReadFrom r.table rest renewed
    → IfErr result (IsRefusedOver r.settings closed.state renewed.table.state) → IfErr result (IsRefused r rest closed)
refused_over r rest closed renewed (Ok next) realm read h = h
refused_over r rest closed renewed (Err fault) realm read h = refused_of r rest closed renewed fault realm read h

-- the journal's fault, of the rest
pub refused_rest : (r : PreparedReload) (rest : Option (List ℕ)) (closed : Held) (fault : RestoreFault) → closed.state.fixed.realm ≡ r.settings.realm
    → IsRefusedFrom r.table rest fault → IsRefused r rest closed (fault_of (fault_after r.records fault))
refused_rest r rest closed (journal.BadRecord n) realm h = (realm, journal.BadRecord n, h, refl)
refused_rest r rest closed (journal.WrongVersion n) realm h = (realm, journal.WrongVersion n, h, refl)
refused_rest r rest closed (journal.UnknownPrincipal n) realm h = (realm, journal.UnknownPrincipal n, h, refl)
refused_rest r rest closed (journal.TooMany n) realm h = (realm, journal.TooMany n, h, refl)
refused_rest r rest closed journal.OtherRealm realm h = (realm, journal.OtherRealm, h, refl)
refused_rest r rest closed journal.CannotRead realm h = (realm, journal.CannotRead, h, refl)
refused_rest r rest closed journal.Memory realm h = tt

taken_over : (settings : Config) (closed renewed : State) (t : State) → Agrees t (opening_of (next_config settings closed renewed) closed.fixed.quiet_until)
    → Agrees (record t { used = closed.used; clock = closed.clock; broken = closed.broken }) (next_state settings closed renewed)
taken_over settings closed renewed t a = record {
  fixed = a.fixed;
  principals = a.principals;
  clock = refl;
  broken = refl;
  count = a.count;
  ids = λ id h. refl;
}

-- the table that was started, once it goes on from the closed one
pub reloaded_from : (r : PreparedReload) (rest : Option (List ℕ)) (closed : Held) (started : NextTable) (table : Held)
    → IsStartedFrom r rest closed.state started
    → table ≡ record started.table {
      state = record started.table.state { used = closed.state.used; clock = closed.state.clock; broken = closed.state.broken };
      events = 0;
      seen = 0;
    } → IsReloaded r rest closed (record { table = table; lacked = started.lacked })
reloaded_from r rest closed started table h e = record {
  renewed = h.renewed;
  read = h.read;
  may = record { realm = h.realm; keys = h.started.keys; fits = h.started.fits };
  table = subst (λ (t : Held). Agrees t.state (next_state r.settings closed.state h.renewed.table.state))
      (sym e) (taken_over r.settings closed.state h.renewed.table.state started.table.state h.started.table);
  counts = (ap (λ (t : Held). t.events) e, ap (λ (t : Held). t.seen) e, ap (λ (t : Held). t.max_entries) e ∙ h.started.counts.2);
  lacked = h.started.lacked;
}
