use Rattle.std.proofs.Common.{◌≡◌, refl, ◌∙◌, ap, rules, to_z, of_z, w64}
use Rattle.chpw_resume.specs.ResumeText.{time_bytes}
use Rattle.chpw_resume.proofs.TextLemmas.{four}
use Rattle.chpw_resume.proofs.writing.state_of.Goals as goal

pub returns : goal.returns
returns c =
    let k : to_z w64 (of_z w64 c.args.resume.now.carried.clock) ≡ c.args.resume.now.carried.clock = search rules in
    let m : to_z w64 (of_z w64 c.args.resume.now.carried.quiet_until) ≡ c.args.resume.now.carried.quiet_until = search rules in
    record {
      value = four _ _ _ _ _ _ _ _ _ _ _ _ c.in_ok-state.ensures.items c.to_be_bytes-length.ensures
          c.in_ok-extend_from_slice.ensures.items refl c.in_ok-extend_from_slice-2.ensures.items (c.to_be_bytes-clock.ensures ∙ ap time_bytes k)
          c.in_ok-extend_from_slice-3.ensures.items (c.to_be_bytes-quiet_until.ensures ∙ ap time_bytes m);
    }
