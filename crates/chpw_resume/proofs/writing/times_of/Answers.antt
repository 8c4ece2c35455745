use Rattle.std.proofs.Common.{◌≡◌, ◌∙◌, ap, rules, to_z, of_z, w64}
use Rattle.chpw_resume.specs.ResumeText.{time_bytes}
use Rattle.chpw_resume.proofs.TextLemmas.{two}
use Rattle.chpw_resume.proofs.writing.times_of.Goals as goal

pub returns : goal.returns
returns c =
    let k : to_z w64 (of_z w64 c.args.id.now.ctime) ≡ c.args.id.now.ctime = search rules in
    record {
      value = two _ _ _ _ _ _ c.in_ok-times.ensures.items (c.to_be_bytes-ctime.ensures ∙ ap time_bytes k)
          c.in_ok-extend_from_slice.ensures.items c.to_be_bytes-cusec.ensures;
    }
