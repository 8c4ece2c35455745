use Rattle.std.specs.Prelude.{is_some}
use Rattle.std.proofs.Common.{subst, sym}
use Rattle.std.proofs.lemmas.Result.{IfOk-at_ok}
use Rattle.chpw_changelog.specs.Pens.{opening_state, opening_table}
use Rattle.chpw_book.specs.Starting.{table_of}
use Rattle.chpw_reload.specs.ReloadRuns.{IsServiceRun}
use Rattle.chpw_desks.specs.ServiceRuns.{GoesOnBy, between}
use Rattle.chpw_desks.proofs.ServiceRunLemmas.{run_goes_on, run_leads}
use Rattle.chpw_desks.proofs.histories.serve_histories.Goals as goal

pub returns-then-served-clause-served : goal.returns-then-served-clause-served
returns-then-served-clause-served g c =
    (between c.loop.served.table c.loop.rules c.loop.staff.items, c.loop.invariant.0, sym c.into_table.ensures.value)

pub returns-then-served-clause-histories : goal.returns-then-served-clause-histories
returns-then-served-clause-histories g c =
    let now = between c.loop.served.table c.loop.rules c.loop.staff.items in
    subst (IsServiceRun (opening_state g.D.LogName.root)) (sym c.into_table.ensures.value)
    (run_leads (is_some c.args.context.now.kdc.socket) c.args.context.now.options.now (opening_table g.D.LogName.root) c.args.first.passes.items
    c.args.rules c.args.workers.items now c.loop.invariant.0)

-- one more desk
pub loop-preserved : goal.loop-preserved
loop-preserved g c =
    let options = c.args.context.now.options.now in
    let now = between c.loop.served.table c.loop.rules c.loop.staff.items in
    let next = table_of c.in_ok-opening.opening.unnamed in
    let new = c.further_opening.new.rules in
    let left = c.in_ok-next.next in
    let goes = IfOk-at_ok (λ o. GoesOnBy options c.loop.served.table c.loop.rules (table_of o.unnamed) new) c.in_ok-opening.was
    (c.further_opening.ensures.goes_on_by c.loop.invariant.1) in
    let served = c.in_ok-next.ensures.served in (
      run_goes_on (is_some c.args.context.now.kdc.socket) options (opening_table g.D.LogName.root) c.args.first.passes.items c.args.rules
          c.args.workers.items now next new left.workers.items served.0 left.served.table c.loop.invariant.0 goes served.1,
      c.in_ok-next.ensures.due,
      c.in_ok-next.ensures.workers,
    )
