use Rattle.std.proofs.Common.{◌≡◌, sym, ◌∙◌, ap, arith, rules, to_z, of_z, w64}
use Rattle.std.proofs.lemmas.Grind.{common_steps}
use Rattle.chpw_resume.specs.ResumeText.{time_bytes}
use Rattle.chpw_resume.proofs.TextLemmas.{cut_two}
use Rattle.chpw_resume.proofs.reading.read_state.Goals as goal

pub returns : goal.returns
returns c =
    let k : to_z w64 (of_z w64 c.signed_in.result) ≡ c.signed_in.result = search rules in
    let m : to_z w64 (of_z w64 c.signed_in-2.result) ≡ c.signed_in-2.result = search rules in
    record {
      value = (
        grind (arith, common_steps),
        cut_two 8 _ _ _ _ _ c.split_at.ensures.front c.split_at.ensures.back c.long_in.ensures.bytes
            (cut_two 20 _ _ _ _ _ c.split_at-2.ensures.front c.split_at-2.ensures.back (grind (arith, common_steps))
            (cut_two 8 _ _ _ _ _ c.split_at-3.ensures.front c.split_at-3.ensures.back
            (c.signed_in.ensures.bytes ∙ ap time_bytes (sym k)) (c.signed_in-2.ensures.bytes ∙ ap time_bytes (sym m)))),
      );
    }
