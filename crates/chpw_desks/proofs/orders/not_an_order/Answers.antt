use Rattle.std.proofs.Common.{codes}
use Rattle.chpw_control.specs.Answers.{lines_text}
use Rattle.chpw_orders.specs.Answers.{refused_lines}
use Rattle.chpw_orders.proofs.AnswerLemmas.{text_or_empty}
use Rattle.chpw_desks.proofs.orders.not_an_order.Goals as goal

pub returns : goal.returns
returns c = record {
  refuses = (
    codes "not an order",
    text_or_empty (λ text. text.items) c.refusal.result (lines_text (refused_lines (codes "not an order")))
        c.answer_or_empty.result.items c.refusal.ensures.value c.answer_or_empty.ensures.some c.answer_or_empty.ensures.none,
  );
}
