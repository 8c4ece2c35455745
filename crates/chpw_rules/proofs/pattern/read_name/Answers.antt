-- One more component follows those so far, after a `/` if there are any.
use Rattle.std.proofs.Common.{◌≡◌, ◌∙◌, ap, sym, ◌+◌, ◌∷◌, [], ◌++◌, append_assoc, List, ℕ, take, arith}
use Rattle.std.proofs.lemmas.Grind.{common_steps}
use Rattle.std.specs.List.{join_with_byte}
use Rattle.std.proofs.lemmas.List.{append-nil}
use Rattle.chpw_rules.specs.Patterns.{slash}
use Rattle.chpw_rules.specs.Prefixes.{AreMatched}
use Rattle.chpw_rules.proofs.PatternLemmas.{joined_first, joined_more}
use Rattle.chpw_rules.proofs.pattern.read_name.Goals as goal
use Rattle.chpw_rules.proofs.pattern.read_name.Goals.{then-place-gt0, else-place-gt0}

pub loop-place-preserved : goal.loop-place-preserved
loop-place-preserved c = λ text known.
    let before = join_with_byte slash (take c.loop-place.place c.args.parts.now) in
    let part = c.index-parts-place.result in
    let bytes : c.as_slice.result.now ≡ part = c.as_slice.ensures.value in
    let so_far = c.loop-place.invariant text known in
    elim c.if-place-gt0.branch [
      | then-place-gt0 w ↦
          let start : List ℕ = text ++ before ++ slash ∷ [] in
          let step : AreMatched c.args.pattern.now start c.if-place-gt0.matched
          = rw w.matched-is (w.read_byte.ensures.value (text ++ before) so_far) in
          let joined : join_with_byte slash (take (c.loop-place.place + 1) c.args.parts.now) ≡ before ++ slash ∷ part
          = joined_more c.args.parts.now c.loop-place.place part w.if-place-gt0.true c.loop-place-test.true
          ∙ ap (λ l. before ++ slash ∷ l) (sym c.index-parts-place.is) in
          let e : text ++ join_with_byte slash (take (c.loop-place.place + 1) c.args.parts.now) ≡ start ++ c.as_slice.result.now
          = rw (joined, bytes) (simp append_assoc) in
          rw e (c.read_bytes.ensures.value start step)
      | else-place-gt0 w ↦
          let first : c.loop-place.place ≡ 0 = omega arith in
          let step : AreMatched c.args.pattern.now text c.if-place-gt0.matched
          = rw w.matched-is (rw (first, append-nil) at so_far) in
          let joined : join_with_byte slash (take (c.loop-place.place + 1) c.args.parts.now) ≡ part
          = rw first (joined_first c.args.parts.now part (omega arith)) ∙ sym (rw first at c.index-parts-place.is) in
          let e : text ++ join_with_byte slash (take (c.loop-place.place + 1) c.args.parts.now) ≡ text ++ c.as_slice.result.now
          = rw (joined, bytes) in
          rw e (c.read_bytes.ensures.value text step)
    ]

pub returns : goal.returns
returns c = record {
  value = λ text known.
      let e : take c.loop-place.place c.args.parts.now ≡ c.args.parts.now = grind (arith, common_steps) in
      rw e at (c.loop-place.invariant text known);
}
