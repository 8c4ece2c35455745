use Rattle.std.proofs.Common.{Some, subst}
use Rattle.std.specs.Prelude.{IfSome}
use Rattle.std.proofs.lemmas.Result.{IfOk-weaker}
use Rattle.chpw_book.specs.Starting.{table_of}
use Rattle.chpw_desks.specs.Orders.{IsDueBy}
use Rattle.chpw_desks.specs.ServiceRuns.{GoesOnBy}
use Rattle.chpw_desks.specs.declared.orders.AfterClose.{AfterClose}
use Rattle.chpw_desks.specs.declared.orders.AfterClose.TheVariants.{Reload}
use Rattle.chpw_desks.proofs.ServiceRunLemmas.{goes_on_by}
use Rattle.chpw_desks.proofs.histories.further_opening.Goals as goal

pub returns-in-Some-Reload-clause-goes_on_by : goal.returns-in-Some-Reload-clause-goes_on_by
returns-in-Some-Reload-clause-goes_on_by g c due_by =
    let options = c.args.context.now.options.now in
    let in_force = c.args.rules.now.text.items in
    let closed = c.args.served.table in
    let old = c.args.rules.now in
    let new = c.reload.new.rules in
    let due = Some (Reload c.in-Some-Reload.order c.in-Some-Reload.anew) in
    IfOk-weaker c.reload.result _ (λ next. GoesOnBy options closed old (table_of next.unnamed) new)
    (λ next does. goes_on_by options in_force due closed old new (table_of next.unnamed)
    (subst (λ (d : AfterClose). IsDueBy options in_force d) c.in-Some-Reload.field-0-is
    (subst (λ d. IfSome d (IsDueBy options in_force)) c.in-Some-Reload.is due_by)) does) c.reload.ensures.rules
