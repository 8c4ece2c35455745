use Rattle.std.proofs.Common.{Bool, subst}
use Rattle.std.specs.Prelude.{IfOk}
use Rattle.std.proofs.lemmas.Result.{IfOk-weaker, IfErr-weaker}
use Rattle.chpw_changelog.specs.Pens.{opening_state, opening_table}
use Rattle.chpw_desks.specs.ServiceRuns.{IsServed}
use Rattle.chpw_desks.specs.Tallies.{IsMismatch}
use Rattle.chpw_desks.proofs.ServiceRunLemmas.{served_at}
use Rattle.chpw_desks.proofs.histories.serve_shift.Goals as goal

pub returns-then-is_full-clause-served : goal.returns-then-is_full-clause-served
returns-then-is_full-clause-served g c =
    let has_kdc = c.is_some.result in
    let rules = c.args.rules.now in
    let opened = c.args.opened in
    let opening = opening_table g.D.LogName.root in
    let before = c.args.workers.items in
    let after = c.close_desk-left.result.workers.items in
    subst (λ (b : Bool). IfOk c.close_desk-left.result.closed
    (λ x. IsServed b rules opening opened.passes.items before after x.history.items x.table)) c.is_some.ensures
    (IfOk-weaker c.close_desk-left.result.closed _ (λ x. IsServed has_kdc rules opening opened.passes.items before after x.history.items x.table)
    (λ x h. served_at has_kdc rules opening g.D.DeskName.workers opened.passes.items before after x.history.items x.table g.D.DeskName.prior opened.in_order h)
    c.close_desk-left.ensures.served)

pub returns-then-is_full-clause-refused : goal.returns-then-is_full-clause-refused
returns-then-is_full-clause-refused g c =
    IfErr-weaker c.close_desk-left.result.closed _ (λ r. IsMismatch (opening_state g.D.LogName.root) g.D.DeskName.workers r.passes.items)
    (λ r h. record { recorded = h.0; prior = g.D.DeskName.prior; linearized = h.1; fault = r.fault; refusal = h.2 }) c.close_desk-left.ensures.refusal

pub returns-clause-served : goal.returns-clause-served
returns-clause-served g c =
    let has_kdc = c.is_some.result in
    let rules = c.args.rules.now in
    let opened = c.args.opened in
    let opening = opening_table g.D.LogName.root in
    let before = c.args.workers.items in
    let after = c.serve_desk.result.0.workers.items in
    subst (λ (b : Bool). IfOk c.serve_desk.result.0.closed
    (λ x. IsServed b rules opening opened.passes.items before after x.history.items x.table)) c.is_some.ensures
    (IfOk-weaker c.serve_desk.result.0.closed _ (λ x. IsServed has_kdc rules opening opened.passes.items before after x.history.items x.table)
    (λ x h. served_at has_kdc rules opening g.D.DeskName.workers opened.passes.items before after x.history.items x.table g.D.DeskName.prior opened.in_order h)
    c.serve_desk.ensures.served)

pub returns-clause-refused : goal.returns-clause-refused
returns-clause-refused g c =
    IfErr-weaker c.serve_desk.result.0.closed _ (λ r. IsMismatch (opening_state g.D.LogName.root) g.D.DeskName.workers r.passes.items)
    (λ r h. record { recorded = h.0; prior = g.D.DeskName.prior; linearized = h.1; fault = r.fault; refusal = h.2 }) c.serve_desk.ensures.refusal
