use Rattle.std.proofs.Common.{◌≡◌, ℕ, Some, None, cond, Bool, true, false, refl, sym, ap, ◌∙◌}
use Rattle.krb_codec.specs.Reading.{element_at, starts_between, first_of}
use Rattle.krb_codec.proofs.SoundLemmas.{element_shorter}
use Rattle.krb_codec.proofs.ListLemmas.{further_goes_on}
use Rattle.krb_codec.proofs.layout.further.Goals as goal

next_is : (b : Bool) (x y : ℕ) → Some x ≡ cond b (Some y) None → (b ≡ true) × (x ≡ y)
next_is true x y e = (refl, cc)
next_is false x y e = absurd cc

pub elements-smaller : goal.elements-smaller
elements-smaller c = element_shorter c.in-Some.tag c.elements.region _ c.in_ok-element.ensures.read

pub elements-preserved : goal.elements-preserved
elements-preserved c =
    let t = next_is (starts_between c.args.low c.args.high c.elements.region.left) c.in-Some.tag (first_of c.elements.region.left) c.in-Some.ensures in
    let one = sym (ap (λ (n : ℕ). element_at n c.elements.region) t.1) ∙ c.in_ok-element.ensures.read in
    further_goes_on c.args.low c.args.high c.elements.invariant.0 c.elements.region _ _ t.0 c.elements.invariant.1
    (elements-smaller c) one c.elements.invariant.2
