use Rattle.std.proofs.Common.{sym, ◌∙◌}
use Rattle.chpw_kdc.proofs.HearingLemmas.{handed_on, line_fault, answered_fault}
use Rattle.chpw_kdc.proofs.dialog.KdcDialog.hear_line.Goals as goal

pub returns-in_err-answer-clause-fault : goal.returns-in_err-answer-clause-fault
returns-in_err-answer-clause-fault g c =
    rw (← c.self.view_is) (handed_on c.from_residual.result c.in_err-answer.field-0.0 _ c.from_residual.ensures.1
    (line_fault (g.O.IsOurs.ours c.args.ours.now) c.args.now _ _ c.in_err-answer.field-0.0 (rw c.as_slice.ensures.value at c.in_err-answer.ensures.value)))

pub returns-clause-fault : goal.returns-clause-fault
returns-clause-fault g c =
    rw (← c.self.view_is) (answered_fault _ _ _ c.in_ok-answer.answer _ c.hear_answer.result
    (rw c.as_slice.ensures.value at c.in_ok-answer.ensures.value) (sym c.is_changed.ensures.value ∙ c.if-is_changed.false)
    (rw (c.clear.ensures.items, c.hear.ensures.value) at c.hear_answer.ensures.fault))
