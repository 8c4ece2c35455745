use Rattle.std.proofs.Common.{refl, arith}
use Rattle.std.proofs.lemmas.Grind.{common_steps}
use Rattle.chpw_resume.proofs.TextLemmas.{apart, cut_two, too_short, unsummed}
use Rattle.chpw_resume.proofs.reading.summed.Goals as goal

pub returns-then-text-lt-SUM_BYTES : goal.returns-then-text-lt-SUM_BYTES
returns-then-text-lt-SUM_BYTES c = record { value = λ body h. too_short c.args.text.now body c.if-text-lt-SUM_BYTES.true h }

pub returns-else-is_sum_of : goal.returns-else-is_sum_of
returns-else-is_sum_of c = record {
  value = λ body h.
      unsummed c.args.text.now c.split_at.result.0.now c.split_at.result.1.now body
      (cut_two _ _ _ _ _ _ c.split_at.ensures.front c.split_at.ensures.back refl refl) (grind (arith, common_steps))
      (λ e. apart c.is_sum_of.result (c.is_sum_of.ensures.value.1 e) c.if-is_sum_of.false) h;
}
