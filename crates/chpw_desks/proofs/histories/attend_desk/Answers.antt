use Rattle.std.specs.Prelude.{is_some}
use Rattle.std.proofs.Common.{◌∙◌}
use Rattle.std.proofs.lemmas.Result.{IfOk-at_ok}
use Rattle.chpw_changelog.specs.Pens.{opening_table}
use Rattle.chpw_desks.specs.ServiceRuns.{IsServed}
use Rattle.chpw_desks.proofs.ServiceRunLemmas.{as_many}
use Rattle.chpw_desks.proofs.histories.attend_desk.Goals as goal

-- a desk gives all its workers back
pub returns-clause-workers : goal.returns-clause-workers
returns-clause-workers g c =
    let has_kdc = is_some c.args.context.now.kdc.socket in
    let rules = c.args.rules.now in
    let passes = c.args.opened.passes.items in
    let opening = opening_table g.D.LogName.root in
    let before = c.args.workers.items in
    let after = c.serve_shift-closed.result.0.workers.items in
    let closed = c.in-Ok.closed in
    as_many has_kdc rules opening passes before after closed.history.items closed.table
    (IfOk-at_ok (λ x. IsServed has_kdc rules opening passes before after x.history.items x.table) c.in-Ok.is c.serve_shift-closed.ensures.served)
    ∙ c.requires.workers
