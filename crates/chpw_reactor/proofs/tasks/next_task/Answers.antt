use Rattle.std.proofs.Common.{◌∙◌, subst, sym}
use Rattle.std.specs.Prelude.{Bool, IfSome, Option, Some}
use Rattle.chpw_kdc.specs.declared.update.KdcUpdate.{KdcUpdate}
use Rattle.chpw_transfers.specs.Kdc.{has_update, is_deciding}
use Rattle.chpw_reactor.specs.Tasks.{IsTaskOf}
use Rattle.chpw_reactor.proofs.tasks.next_task.Goals as goal

pub returns-in-Some : goal.returns-in-Some
returns-in-Some c =
    let decides = is_deciding c.args.now c.args.state.now.reach c.args.state.now.kdc in
    let more : Bool = has_update c.take_update.new.self.kdc in
    let task : IfSome c.update_task.result (IsTaskOf (Some c.in-Some.update) more decides) =
    subst (λ (m : Bool). IfSome c.update_task.result (IsTaskOf (Some c.in-Some.update) m decides)) c.has_update.ensures.value
    (c.update_task.ensures.update decides) in
    record {
      task = subst (λ (o : Option KdcUpdate). IfSome c.update_task.result (IsTaskOf o more decides)) (sym c.in-Some.is ∙ c.take_update.ensures.value) task;
    }
