use Rattle.std.proofs.Common.{◌≡◌, sym, ◌∙◌, ap, rules, to_z, of_z, w64}
use Rattle.chpw_resume.specs.ResumeText.{time_bytes}
use Rattle.chpw_resume.proofs.TextLemmas.{cut_two}
use Rattle.chpw_resume.proofs.reading.read_times.Goals as goal

pub returns : goal.returns
returns c =
    let k : to_z w64 (of_z w64 c.signed_in.result) ≡ c.signed_in.result = search rules in
    record {
      value = cut_two 8 _ _ _ _ _ c.split_at.ensures.front c.split_at.ensures.back
          (c.signed_in.ensures.bytes ∙ ap time_bytes (sym k)) c.short_in.ensures.bytes;
    }
