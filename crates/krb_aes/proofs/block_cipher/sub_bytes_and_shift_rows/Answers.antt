use Rattle.std.proofs.Common.{rules, ℕ, List, get_or, sym, ◌∙◌, arith}
use Rattle.krb_aes.specs.Aes.{shift_rows, sub_bytes}
use Rattle.krb_aes.proofs.StateLemmas.{written_more, same_states, get_or-substituted, length-shift_rows}
use Rattle.krb_aes.proofs.block_cipher.sub_bytes_and_shift_rows.Goals as goal

pub loop-k-preserved : goal.loop-k-preserved
loop-k-preserved c =
    let s : List ℕ = c.args.state.now in
    let k : ℕ = c.loop-k.k in (
      search rules,
      written_more (λ k. get_or (shift_rows (sub_bytes s)) k 0) c.loop-k.out k _
          (c.sub_byte.ensures ∙ sym (get_or-substituted s k (omega arith) (omega arith)))
          (omega arith) c.loop-k.invariant.1,
    )

pub returns : goal.returns
returns c =
    let s : List ℕ = c.args.state.now in
    same_states c.loop-k.out (shift_rows (sub_bytes s)) c.loop-k.k c.loop-k.invariant.0 (length-shift_rows (sub_bytes s)) (omega arith) c.loop-k.invariant.1
