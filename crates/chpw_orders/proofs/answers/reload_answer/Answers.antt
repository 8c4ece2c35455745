use Rattle.std.proofs.Common.{rules}
use Rattle.chpw_orders.proofs.AnswerLemmas.{reloaded_text}
use Rattle.chpw_orders.proofs.answers.reload_answer.Goals as goal

pub returns : goal.returns
returns c = record {
  value = reloaded_text c.args.warnings.now c.args.lacked.now c.new-text.result.items _ _ _ (search rules) c.in_ok-put_warnings.ensures.value
      c.in_ok-put_all_lacked.ensures.value c.in_ok-put_ok.ensures.value;
}
