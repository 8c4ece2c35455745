use Rattle.std.proofs.Common.{◌≡◌, refl, sym, ap, ◌∙◌, arith, inl, inr, Some, List, ℕ, ◌<ℤ◌, ◌⊎◌, pos, negsuc, w64, FitsSigned}
use Rattle.std.proofs.lemmas.Int.{ints, to_z-of_z}
use Rattle.krb_codec.specs.CivilTimes.{civil_at}
use Rattle.krb_codec.specs.Times.{IsWritable, civil_text, time_octets}
use Rattle.krb_codec.proofs.TimeLemmas.{time_of_none, time_of_some, time_of-exact, outside}
use Rattle.krb_codec.proofs.time.seconds_to_time.Goals as goal
use Rattle.krb_codec.proofs.time.seconds_to_time.Goals.{then-seconds-lt-FIRST_SECOND-via-then-seconds-lt-FIRST_SECOND}
use Rattle.krb_codec.proofs.time.seconds_to_time.Goals.{then-seconds-lt-FIRST_SECOND-via-else-seconds-lt-FIRST_SECOND+then-seconds-gt-LAST_SECOND}

pub returns-then-seconds-lt-FIRST_SECOND : goal.returns-then-seconds-lt-FIRST_SECOND
returns-then-seconds-lt-FIRST_SECOND c =
    let out : (c.args.seconds <ℤ negsuc 62167219199) ⊎ (pos 253402300799 <ℤ c.args.seconds) = elim c.then-seconds-lt-FIRST_SECOND.branch [
      | then-seconds-lt-FIRST_SECOND-via-then-seconds-lt-FIRST_SECOND w ↦ inl (omega (arith, ints))
      | then-seconds-lt-FIRST_SECOND-via-else-seconds-lt-FIRST_SECOND+then-seconds-gt-LAST_SECOND w ↦ inr (omega (arith, ints))
    ] in
    let is = time_of_none c.args.seconds out in
    record {
      value = sym is;
      exact = λ text. let both = time_of-exact c.args.seconds text in (λ e. both.0 (is ∙ e), λ h. sym is ∙ both.1 h);
      none = (λ e. outside c.args.seconds out, λ h. refl);
    }

pub returns : goal.returns
unfolding time_octets
returns c =
    let within : IsWritable c.args.seconds = (omega (arith, ints), omega (arith, ints)) in
    let fs : FitsSigned w64 c.args.seconds = c.ranges.seconds in
    let at : c.civil_at.result ≡ civil_at c.args.seconds = c.civil_at.ensures.value ∙ ap civil_at (to_z-of_z w64 c.args.seconds fs) in
    let is = ap (λ (t : List ℕ). Some t) (c.civil_text.ensures ∙ ap civil_text at) ∙ sym (time_of_some c.args.seconds within) in
    record {
      value = is;
      exact = λ text. let both = time_of-exact c.args.seconds text in (λ e. both.0 (sym is ∙ e), λ h. is ∙ both.1 h);
      none = (λ e. absurd cc, λ h. absurd (h within));
    }
