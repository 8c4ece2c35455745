use Rattle.std.proofs.Common.{◌≡◌, ◌<ℤ◌, ◌≤ℤ◌, ◌⊎◌, inl, inr, sym, ◌∙◌, arith, rules, w64, true, false, FitsSigned}
use Rattle.std.proofs.lemmas.Int.{ints, to_z-of_z}
use Rattle.krb_codec.specs.Integers.{is_shortest_integer, signed}
use Rattle.krb_codec.proofs.IntegerLemmas.{integer_bad, integer_outside, integer_complete, long_outside}
use Rattle.krb_codec.proofs.integer.integer_in.Goals as goal
use Rattle.krb_codec.proofs.integer.integer_in.Goals.{else-low-n-via-then-low-n+else-n-high, else-low-n-via-else-low-n}

pub returns-then-not-is_shortest-clause-value : goal.returns-then-not-is_shortest-clause-value
returns-then-not-is_shortest-clause-value c =
    let bad : is_shortest_integer c.args.content.now ≡ false = sym c.is_shortest.ensures ∙ c.if-not-is_shortest.true in
    sym (integer_bad c.args.low c.args.high c.args.place c.args.content.now bad)

pub returns-then-n-high-clause-value : goal.returns-then-n-high-clause-value
returns-then-n-high-clause-value c =
    let good : is_shortest_integer c.args.content.now ≡ true = sym c.is_shortest.ensures ∙ c.if-not-is_shortest.false in
    let fn : FitsSigned w64 c.to_signed-n.result = search rules in
    let above : c.args.low ≤ℤ c.to_signed-n.result = omega (arith, ints) in
    let below : c.to_signed-n.result ≤ℤ c.args.high = omega (arith, ints) in
    rw (to_z-of_z w64 c.to_signed-n.result fn)
    (sym (integer_complete c.args.low c.args.high c.args.place c.args.content.now c.to_signed-n.result (
      good,
      c.to_signed-n.ensures,
      above,
      below,
    )))

pub returns-else-low-n-clause-value : goal.returns-else-low-n-clause-value
returns-else-low-n-clause-value c =
    let good : is_shortest_integer c.args.content.now ≡ true = sym c.is_shortest.ensures ∙ c.if-not-is_shortest.false in
    let fn : FitsSigned w64 c.to_signed-n.result = search rules in
    let is = c.to_signed-n.ensures in
    let out : (signed c.args.content.now <ℤ c.args.low) ⊎ (c.args.high <ℤ signed c.args.content.now) = elim c.else-low-n.branch [
      | else-low-n-via-then-low-n+else-n-high w ↦ inr (rw (← is) (omega (arith, ints)))
      | else-low-n-via-else-low-n w ↦ inl (rw (← is) (omega (arith, ints)))
    ] in
    sym (integer_outside c.args.low c.args.high c.args.place c.args.content.now good out)

pub returns-else-content-le-LONGEST-clause-value : goal.returns-else-content-le-LONGEST-clause-value
returns-else-content-le-LONGEST-clause-value c =
    let good : is_shortest_integer c.args.content.now ≡ true = sym c.is_shortest.ensures ∙ c.if-not-is_shortest.false in
    let out = long_outside c.args.low c.args.high c.args.content.now (λ i. let small = c.type_inv.content i in
    omega (arith, small)) c.ranges.low c.ranges.high good (omega (arith, c.if-content-le-LONGEST.false)) in
    sym (integer_outside c.args.low c.args.high c.args.place c.args.content.now good out)
