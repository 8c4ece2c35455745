use Rattle.std.proofs.Common.{rules, ℕ, List, get_or, sym, ◌∙◌, arith}
use Rattle.krb_aes.specs.Aes.{inv_sub_bytes, inv_shift_rows}
use Rattle.krb_aes.proofs.StateLemmas.{written_more, same_states, get_or-substituted_back, length-inv_shift_rows, length-inv_sub_bytes}
use Rattle.krb_aes.proofs.block_cipher.inv_shift_rows_and_sub_bytes.Goals as goal

pub loop-k-preserved : goal.loop-k-preserved
loop-k-preserved c =
    let s : List ℕ = c.args.state.now in
    let k : ℕ = c.loop-k.k in (
      search rules,
      written_more (λ k. get_or (inv_sub_bytes (inv_shift_rows s)) k 0) c.loop-k.out k _
          (c.inv_sub_byte.ensures ∙ sym (get_or-substituted_back s k (omega arith)))
          (omega arith) c.loop-k.invariant.1,
    )

pub returns : goal.returns
returns c =
    let s : List ℕ = c.args.state.now in
    same_states c.loop-k.out (inv_sub_bytes (inv_shift_rows s)) c.loop-k.k c.loop-k.invariant.0
    (length-inv_sub_bytes (inv_shift_rows s) ∙ length-inv_shift_rows s) (omega arith) c.loop-k.invariant.1
