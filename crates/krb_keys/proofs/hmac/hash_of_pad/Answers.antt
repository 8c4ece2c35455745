use Rattle.std.proofs.Common.{◌≡◌, ℕ, sym, ◌∙◌, map, bit_xor, arith}
use Rattle.std.proofs.lemmas.Grind.{same_number_lists}
use Rattle.std.proofs.lemmas.List.{length-map, get_or-map}
use Rattle.krb_keys.proofs.hmac.hash_of_pad.Goals as goal

pub returns : goal.returns
returns c =
    let f : ℕ → ℕ = λ b. bit_xor b c.args.pad in
    let len = length-map c.args.block.now f in
    let bytes : c.loop-byte.byte-items ≡ map f c.args.block.now =
    same_number_lists _ _ (omega arith)
    (λ k h. c.loop-byte.invariant.0 k (omega arith) ∙ sym (get_or-map f c.args.block.now k 0 0 (omega arith))) in
    rw (← bytes) (c.update.ensures _ c.new-hasher.ensures)
