use Rattle.std.proofs.Common.{◌++◌, ◌∷◌, []}
use Rattle.chpw_control.specs.Answers.{lines_text, ok_line}
use Rattle.chpw_control.specs.Statuses.{status_lines}
use Rattle.chpw_orders.proofs.AnswerLemmas.{text_or_empty}
use Rattle.chpw_host.proofs.status.answer_with.Goals as goal

pub returns : goal.returns
returns c = record {
  value = text_or_empty (λ text. text.items) c.status_answer.result (lines_text (status_lines c.args.status.now ++ ok_line ∷ []))
      c.answer_or_empty.result.items c.status_answer.ensures.value c.answer_or_empty.ensures.some c.answer_or_empty.ensures.none;
}
