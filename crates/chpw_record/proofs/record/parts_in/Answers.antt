use Rattle.std.proofs.Common.{◌≤◌, length, sym, ◌∙◌, arith}
use Rattle.std.proofs.lemmas.Grind.{common_steps}
use Rattle.chpw_record.proofs.PartsLemmas.{cut_same, cut_short}
use Rattle.chpw_record.proofs.record.parts_in.Goals as goal

pub returns-then-others-length : goal.returns-then-others-length
returns-then-others-length c = record {
  value = λ parts e.
      let r = cut_same parts c.loop-rest.parts.items c.loop-rest.rest.now (sym e ∙ c.loop-rest.invariant) in
      let short : length c.loop-rest.rest.now ≤ c.from-length.result = grind (arith, common_steps) in
      cut_short c.loop-rest.rest.now c.from-length.result r.0 c.in-len1-up.len_at_least c.from-length.ensures short r.2;
}
