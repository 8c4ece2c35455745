-- One more byte follows those so far.
use Rattle.std.proofs.Common.{◌≡◌, ◌∙◌, ap, sym, ◌+◌, ◌∷◌, [], ◌++◌, append_assoc, take, get_or, arith}
use Rattle.std.proofs.lemmas.Grind.{common_steps}
use Rattle.std.proofs.lemmas.List.{take_more}
use Rattle.chpw_rules.proofs.pattern.read_bytes.Goals as goal

pub loop-byte-preserved : goal.loop-byte-preserved
loop-byte-preserved c = λ text known.
    let front = take c.loop-byte.byte-index c.args.bytes.now in
    let last = get_or c.args.bytes.now c.loop-byte.byte-index 0 ∷ [] in
    let e : text ++ take (c.loop-byte.byte-index + 1) c.args.bytes.now ≡ text ++ front ++ last
    = ap (λ l. text ++ l) (take_more c.args.bytes.now c.loop-byte.byte-index 0 c.loop-byte-test.true) ∙ sym (append_assoc text front last) in
    rw e (c.read_byte.ensures.value (text ++ front) (c.loop-byte.invariant text known))

pub returns : goal.returns
returns c = record {
  value = λ text known.
      let e : take c.loop-byte.byte-index c.args.bytes.now ≡ c.args.bytes.now = grind (arith, common_steps) in
      rw e at (c.loop-byte.invariant text known);
}
