-- Histories of a service, one after the other.
use Rattle.std.proofs.Common.{◌≡◌, ℕ, Bool, List, [], ◌∷◌, ◌++◌, Option, Some, None, length, inl, inr, refl, sym, ◌∙◌, ap, subst}
use Rattle.std.specs.Prelude.{IfSome}
use Rattle.chpw_rules.specs.declared.config.Config.{Config}
use Rattle.chpw_table.specs.Agreement.{Agrees, Held}
use Rattle.chpw_table.specs.State.{State}
use Rattle.chpw_table.specs.declared.history.Entry.{Entry}
use Rattle.chpw_table.proofs.AgreementLemmas.{agrees_itself}
use Rattle.chpw_reload.specs.declared.prepared_reload.PreparedReload.{PreparedReload}
use Rattle.chpw_reload.specs.declared.reloading.NextTable.{NextTable}
use Rattle.chpw_reload.specs.Reloading.{IsPrepared, IsReloaded}
use Rattle.chpw_reload.specs.Reloads.{IsReload}
use Rattle.chpw_reload.specs.ReloadRuns.{GoesOn, IsHistory, IsServiceRun}
use Rattle.chpw_serve.specs.InTurn.{InTurn}
use Rattle.chpw_serve.specs.WordStreams.{gives_word}
use Rattle.chpw_serve.proofs.DrawLemmas.{drawn_on}
use Rattle.chpw_messages.specs.Replies.{error_frame, private_frame}
use Rattle.chpw_messages.specs.Versions.{OpensUnder}
use Rattle.chpw_book.specs.Passes.{PassView}
use Rattle.chpw_reactor.specs.Engines.{seat_turns}
use Rattle.chpw_workers.specs.Desks.{AreInOrder, ServedDesk}
use Rattle.chpw_invocation.specs.declared.invocation.ServeOptions.{ServeOptions}
use Rattle.chpw_control.specs.TakenOrders.{command_in}
use Rattle.chpw_desks.proofs.OrderLemmas.{reload_by}
use Rattle.chpw_desks.specs.Following.{DoesWhatIsDue, TakesRules}
use Rattle.chpw_book.specs.Newest.{AreHeldAfter}
use Rattle.chpw_desks.specs.Orders.{IsDueBy}
use Rattle.chpw_orders.specs.Rereading.{IsReadAnew}
use Rattle.chpw_desks.specs.ServiceRuns.{Between, DeskRun, GoesOnBy, IsNextDesk, IsReloadBy, IsRun, IsServed, RunsAreServiceRuns}
use Rattle.chpw_desks.specs.ServiceRuns.{between, gives_moment, new_passes}
use Rattle.chpw_start.specs.Rules.{AreRulesOf}
use Rattle.chpw_desks.specs.Staff.{ServiceWorker}
use Rattle.chpw_desks.specs.declared.orders.AfterClose.{AfterClose}
use Rattle.chpw_desks.specs.declared.orders.AfterClose.TheVariants.{Compact, Reload}
use Rattle.chpw_orders.specs.declared.rereading.PendingReload.{PendingReload}
use Rattle.chpw_start.specs.declared.rules.Rules.{Rules}
use Rattle.chpw_desks.proofs.StaffLemmas.{in_order_length, served_count}
use Rattle.chpw_reload.proofs.PartsLemmas.{reloaded_is_reload}
use Rattle.chpw_reload.proofs.RunLemmas.{runs_begin, runs_go_on}

-- a reload comes with its rules
pub takes_new : (anew : PendingReload) (closed : Held) (old : Rules) (r : NextTable)
    → ((bytes : Option (List ℕ)) × IsReloaded anew.renewed bytes closed r) → TakesRules anew closed old anew.rules r.table
takes_new anew closed old r reloaded = inl (refl, (reloaded.0, (r, (reloaded.1, refl))))

pub reload_goes_on : (file : Config) (journal rest : Option (List ℕ)) (renewal : PreparedReload) (closed : Held) (next : NextTable) →
    IsPrepared file journal renewal → IsReloaded renewal rest closed next → GoesOn closed.state next.table.state
reload_goes_on file journal rest renewal closed next prepared reloaded =
    let made = reloaded_is_reload file journal rest renewal closed next closed.state prepared reloaded (agrees_itself closed.state) in
    inr (file, made.0, made.1)

-- and the closed table from itself
pub goes_on_itself : (s : State) → GoesOn s s
goes_on_itself s = inl (agrees_itself s)

-- ---- from each message to the history

-- what was due does what the run says
is_reload_by : (options : ServeOptions) (anew : PendingReload) (closed : Held) (new : Rules) (next : Held) → IsReadAnew options anew
    → new ≡ anew.rules → (bytes : Option (List ℕ)) (r : NextTable) → IsReloaded anew.renewed bytes closed r → next ≡ r.table
    → IsReloadBy options closed next new
is_reload_by options anew closed new next read rules bytes r reloaded table =
    let made = reloaded_is_reload read.config read.journal bytes anew.renewed closed r closed.state read.prepared reloaded (agrees_itself closed.state) in
    record {
      config = read.config;
      rules_are = subst (λ (rs : Rules). AreRulesOf read.config options rs) (sym rules) read.rules;
      records = made.0;
      reload = subst (λ (t : Held). IsReload read.config made.0 closed.state t.state) (sym table) made.1;
      room = ap (λ (t : Held). t.max_entries) table
          ∙ (reloaded.counts.2 ∙ (ap (λ (c : Config). c.max_entries) read.prepared.settings
          ∙ (sym read.rules.max_entries ∙ sym (ap (λ (rs : Rules). rs.max_entries) rules))));
    }

pub goes_on_by : (options : ServeOptions) (in_force : List ℕ) (due : Option AfterClose) (closed : Held) (old new : Rules) (next : Held)
    → IfSome due (IsDueBy options in_force) → DoesWhatIsDue due closed old new next → GoesOnBy options closed old next new
goes_on_by options in_force None closed old new next is does = inl (does.1, does.0)
goes_on_by options in_force (Some (Compact order compaction)) closed old new next is does = inl (does.1, does.0)
goes_on_by options in_force (Some (Reload order anew)) closed old new next is (inr h) = inl (h.1, h.0)
goes_on_by options in_force (Some (Reload order anew)) closed old new next is (inl h) =
    let read = (reload_by options in_force (command_in order) anew is).1 in
    inr (is_reload_by options anew closed new next read h.0 h.1.0 h.1.1.0 h.1.1.1.0 h.1.1.1.1)

-- the same of a state
goes_on_from : (options : ServeOptions) (left : Held) (old : Rules) (next : Held) (new : Rules) → GoesOnBy options left old next new
    → GoesOn left.state next.state
goes_on_from options left old next new (inl h) = inl (subst (λ (t : Held). Agrees t.state left.state) (sym h.0) (agrees_itself left.state))
goes_on_from options left old next new (inr r) = inr (r.config, r.records, r.reload)

module _ {R L : Type 0} (has_kdc : Bool) where
  -- what a desk of so many workers served, each of whom has a pass
  pub served_at : (rules : Rules) (opening : Held) (count : ℕ) (passes : List PassView) (before after : List (ServiceWorker R L))
      (history : List Entry) (left : Held) (prior : List ℕ) → AreInOrder count passes
      → ServedDesk gives_moment gives_word seat_turns (error_frame rules.service.realm) private_frame
      (OpensUnder rules.service.accepts rules.service.realm rules.service.keys) (AreHeldAfter opening.state) has_kdc
      opening.state count passes before after history left prior None
      → IsServed has_kdc rules opening passes before after history left
  served_at rules opening count passes before after history left prior order served =
      subst (λ (n : ℕ). ServedDesk gives_moment gives_word seat_turns (error_frame rules.service.realm) private_frame
      (OpensUnder rules.service.accepts rules.service.realm rules.service.keys) (AreHeldAfter opening.state) has_kdc
      opening.state n passes before after history left [] None)
      (sym (in_order_length count passes order)) (record {
        legal = served.legal;
        agrees = served.agrees;
        whole = served.whole;
        journal = tt;
        numbered = served.numbered;
        workers_are = served.workers_are;
        each = served.each;
      })

  history_of : (rules : Rules) (opening : Held) (passes : List PassView) (before after : List (ServiceWorker R L))
      (history : List Entry) (left : Held) → IsServed has_kdc rules opening passes before after history left → IsHistory opening.state left
  history_of rules opening passes before after history left served =
      record { history = history; legal = served.legal; whole = served.whole; agrees = served.agrees }

  -- a desk has as many workers after it as before
  pub as_many : (rules : Rules) (opening : Held) (passes : List PassView) (before after : List (ServiceWorker R L))
      (history : List Entry) (left : Held) → IsServed has_kdc rules opening passes before after history left → length after ≡ length before
  as_many rules opening passes before after history left served =
      served_count gives_moment gives_word seat_turns (error_frame rules.service.realm) private_frame
      (OpensUnder rules.service.accepts rules.service.realm rules.service.keys) (AreHeldAfter opening.state) has_kdc
      0 passes before after history left served.each

  module _ (options : ServeOptions) where
    -- a first desk is a run, and one more desk extends one
    pub run_begins : (opening : Held) (passes : List PassView) (rules : Rules) (workers after : List (ServiceWorker R L))
        (history : List Entry) (table : Held) → IsServed has_kdc rules opening passes workers after history table
        → IsRun has_kdc options opening passes rules workers (between table rules after)
    run_begins opening passes rules workers after history table served =
        record { history = history; first = between table rules after; rules_are = refl; served = served; more = []; follow = refl }

    pub run_goes_on : (opening : Held) (passes : List PassView) (rules : Rules) (workers : List (ServiceWorker R L)) (now : Between R L)
        (next : Held) (new : Rules) (after : List (ServiceWorker R L)) (history : List Entry) (table : Held)
        → IsRun has_kdc options opening passes rules workers now → GoesOnBy options now.table now.rules next new
        → IsServed has_kdc new next (new_passes (length now.workers)) now.workers after history table
        → IsRun has_kdc options opening passes rules workers (between table new after)
    run_goes_on opening passes rules workers now next new after history table run goes served =
        let desk : DeskRun = record { opening = next; history = history } in
        record {
          history = run.history;
          first = run.first;
          rules_are = run.rules_are;
          served = run.served;
          more = run.more ++ desk ∷ [];
          follow = drawn_on (IsNextDesk has_kdc options) run.first run.more now desk (between table new after) run.follow
              (record { goes_on = goes; served = served });
        }

    desks_lead_on : (opening : State) (desks : List DeskRun) (before after : Between R L) → IsServiceRun opening before.table
        → InTurn (IsNextDesk has_kdc options) before desks after → IsServiceRun opening after.table
    desks_lead_on opening [] before after run follow = subst (λ (b : Between R L). IsServiceRun opening b.table) follow run
    desks_lead_on opening (d ∷ ds) before after run follow =
        let next : IsNextDesk has_kdc options before d follow.0 = follow.1 in
        desks_lead_on opening ds follow.0 after
        (runs_go_on opening d.opening.state before.table follow.0.table run
        (goes_on_from options before.table before.rules d.opening follow.0.rules next.goes_on)
        (history_of follow.0.rules d.opening (new_passes (length before.workers)) before.workers follow.0.workers d.history follow.0.table next.served))
        follow.2

    pub run_leads : (opening : Held) (passes : List PassView) (rules : Rules) (workers : List (ServiceWorker R L)) (now : Between R L)
        → IsRun has_kdc options opening passes rules workers now → IsServiceRun opening.state now.table
    run_leads opening passes rules workers now run = desks_lead_on opening.state run.more run.first now
        (runs_begin opening.state run.first.table
        (history_of rules opening passes workers run.first.workers run.history run.first.table run.served)) run.follow

pub run_is_service_run : {R L : Type 0} → RunsAreServiceRuns R L
run_is_service_run has_kdc options opening passes rules workers now run = run_leads has_kdc options opening passes rules workers now run
