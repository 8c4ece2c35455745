use Rattle.std.proofs.Common.{◌≡◌, ◌≢◌, ℕ, ◌+◌, ◌<◌, List, length, drop, get_or, set, get_or-set_same, get_or-set_other, below_more, sym, ◌∙◌, arith}
use Rattle.std.proofs.Math.Nat.{div-le_self}
use Rattle.std.proofs.lemmas.List.{length-take, length-drop, get_or-take, get_or-drop}
use Rattle.std.proofs.lemmas.Grind.{same_number_lists}
use Rattle.krb_keys.specs.Nfold.{joined}
use Rattle.krb_keys.proofs.CopyLemmas.{get_or-joined}
use Rattle.krb_keys.proofs.folding.take_part.Goals as goal

pub overflow_add-place : goal.overflow_add-place
overflow_add-place c = omega arith

pub rotated_byte-requires-clause-few : goal.rotated_byte-requires-clause-few
rotated_byte-requires-clause-few c = omega (arith, div-le_self)

pub loop-k-preserved : goal.loop-k-preserved
loop-k-preserved c =
    let k : ℕ = c.loop-k.k in
    let text : List ℕ = joined c.args.input.now (length c.args.part.now) in
    let lt : k < length c.loop-k.part = omega arith in
    below_more (λ j. get_or (set c.loop-k.part k c.rotated_byte.result) j 0 ≡ get_or text (c.args.start + j) 0) _
    (λ j h. let ne : j ≢ k = omega arith in get_or-set_other c.loop-k.part k j c.rotated_byte.result 0 ne ∙ c.loop-k.invariant j h)
    (get_or-set_same c.loop-k.part k c.rotated_byte.result 0 lt ∙ c.rotated_byte.ensures
    ∙ sym (get_or-joined c.args.input.now (length c.args.part.now) (c.args.start + k) (omega arith)))

pub returns : goal.returns
returns c =
    let n : ℕ = length c.args.part.now in
    let text : List ℕ = joined c.args.input.now n in
    same_number_lists _ _ (omega (arith, length-take n (drop c.args.start text), length-drop c.args.start text))
    (λ k h.
    c.loop-k.invariant k (omega arith)
    ∙ sym (get_or-take n (drop c.args.start text) k 0 (omega arith) ∙ get_or-drop c.args.start text k 0))
