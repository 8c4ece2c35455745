use Rattle.std.proofs.Common.{◌≡◌, [], ◌∙◌, ap, sym, subst, rules}
use Rattle.chpw_table.specs.declared.request.Opened.{Opened}
use Rattle.chpw_table.specs.declared.outcome.DecideFault.{DecideFault}
use Rattle.chpw_table.specs.declared.outcome.DecideFault.TheVariants.{Full, NeedKeys}
use Rattle.chpw_table.specs.declared.outcome.Refused.{Refused}
use Rattle.chpw_table.specs.Agreement.{Held}
use Rattle.chpw_table.specs.History.{missing}
use Rattle.chpw_table.specs.Refusals.{IsFirst, IsRefused}
use Rattle.chpw_table.specs.Completing.{completed}
use Rattle.chpw_table.proofs.AgreementLemmas.{agrees_itself}
use Rattle.chpw_decider.specs.Deciding.{IsFinal}
use Rattle.chpw_decider.proofs.CompletingLemmas.{completed_by_none, completed_lacks_nothing, no_need, err_implies}
use Rattle.chpw_changelog.specs.Pens.{opening_state}
use Rattle.chpw_table.specs.declared.history.Event.TheVariants.{Ask}
use Rattle.chpw_book.specs.Calls.{Adds}
use Rattle.chpw_book.specs.Publishing.{BookView}
use Rattle.chpw_book.proofs.CallLemmas.{full_at, final_other}
use Rattle.chpw_book.proofs.book.Book.decide_deriving.Goals as goal

-- with the missing keys derived none is asked for
pub returns-else-is_err-clause-never : goal.returns-else-is_err-clause-never
returns-else-is_err-clause-never g c =
    let t : Held = c.args.self.now.kept.table in
    let u : Held = c.decide.new.self.kept.table in
    let same : u ≡ t = ap (λ (x : BookView). x.kept.table) c.in-Err.ensures.unchanged.0 in
    let back = c.in-Err.ensures.refused.opened in
    let first : IsFirst t (missing t.state c.args.now c.args.opened) (NeedKeys c.in-NeedKeys.counts) =
    subst (λ (f : DecideFault). IsFirst t (missing t.state c.args.now c.args.opened) f) c.in-NeedKeys.is
    (c.in-Err.ensures.refused.first t.state (agrees_itself t.state)) in
    let given = first.2 in
    let o : Opened = c.complete.new.self in
    let made : o ≡ completed c.args.password.now (missing t.state c.args.now c.args.opened) c.args.opened = search (rules, back, given) in
    let none : missing u.state c.args.now o ≡ [] =
    ap (λ (x : Held). missing x.state c.args.now o) same ∙ (ap (λ (x : Opened). missing t.state c.args.now x) made
    ∙ completed_lacks_nothing t.state c.args.now c.args.opened c.args.password.now) in
    err_implies (λ (r : Refused). IsRefused u c.args.now o r) (λ (r : Refused). IsFinal r.fault)
    (λ r h. no_need u (missing u.state c.args.now o) r.fault none
    (h.first u.state (agrees_itself u.state))) c.decide-in-NeedKeys.result c.decide-in-NeedKeys.ensures.refused

pub returns-else-is_err-clause-full : goal.returns-else-is_err-clause-full
returns-else-is_err-clause-full g c =
    let t : Held = c.args.self.now.kept.table in
    let u : Held = c.decide.new.self.kept.table in
    let same : u ≡ t = ap (λ (x : BookView). x.kept.table) c.in-Err.ensures.unchanged.0 in
    let o : Opened = c.complete.new.self in
    err_implies (λ (r : Refused). IsRefused u c.args.now o r) (λ (r : Refused). r.fault ≡ Full → t.events ≡ t.max_entries)
    (λ r h e. sym (ap (λ (x : Held). x.events) same)
    ∙ (full_at u (missing u.state c.args.now o) r.fault (h.first u.state (agrees_itself u.state)) e
    ∙ ap (λ (x : Held). x.max_entries) same)) c.decide-in-NeedKeys.result c.decide-in-NeedKeys.ensures.refused

pub returns-in_default : goal.returns-in_default
returns-in_default g c =
    let t : Held = c.args.self.now.kept.table in
    record {
      adds = tt;
      never = final_other c.in-Err.refused.fault c.in_default.not-NeedKeys;
      full = full_at t (missing t.state c.args.now c.args.opened) c.in-Err.refused.fault (c.in-Err.ensures.refused.first t.state (agrees_itself t.state));
      unchanged = (
        c.in-Err.ensures.unchanged.0,
        c.in-Err.ensures.unchanged.1,
        ([], c.in-Err.ensures.refused.opened ∙ sym (completed_by_none c.args.password.now c.args.opened)),
      );
      told = c.decide.ensures.told;
    }

-- where no keys are missing the request is as it was
pub returns-in-Ok-clause-adds : goal.returns-in-Ok-clause-adds
returns-in-Ok-clause-adds g c = (
  [],
  subst (λ (o : Opened). Adds (opening_state g.D.LogName.root) c.args.self.now.kept c.decide.new.self.kept
      c.args.pass.now c.decide.new.pass c.args.now (Ask o c.in-Ok.verdict))
      (sym (completed_by_none c.args.password.now c.args.opened)) c.in-Ok.ensures.adds,
)

pub returns-then-is_err-clause-unchanged : goal.returns-then-is_err-clause-unchanged
returns-then-is_err-clause-unchanged g c =
    let same : c.complete.new.self ≡ c.in-Err.refused.opened = search rules in (
      c.in-Err.ensures.unchanged.0,
      c.in-Err.ensures.unchanged.1,
      ([], same ∙ (c.in-Err.ensures.refused.opened ∙ sym (completed_by_none c.args.password.now c.args.opened))),
    )
