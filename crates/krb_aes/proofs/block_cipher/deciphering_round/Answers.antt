use Rattle.std.proofs.Common.{List, ℕ, ap, ◌∙◌, arith}
use Rattle.krb_aes.specs.Bytes.{xor_bytes}
use Rattle.krb_aes.proofs.RoundLemmas.{four_of, joined_same, round_back_joined}
use Rattle.krb_aes.proofs.block_cipher.deciphering_round.Goals as goal

pub returns : goal.returns
returns c =
    let s = c.args.state.now in
    let k = c.args.key.now in
    joined_same _ _ _ _ _ _ _ _
    (c.add_key_column.ensures ∙ ap (λ (l : List ℕ). xor_bytes l (four_of k 0)) c.inv_sub_and_mix_column.ensures)
    (c.add_key_column-2.ensures ∙ ap (λ (l : List ℕ). xor_bytes l (four_of k 4)) c.inv_sub_and_mix_column-2.ensures)
    (c.add_key_column-3.ensures ∙ ap (λ (l : List ℕ). xor_bytes l (four_of k 8)) c.inv_sub_and_mix_column-3.ensures)
    (c.add_key_column-4.ensures ∙ ap (λ (l : List ℕ). xor_bytes l (four_of k 12)) c.inv_sub_and_mix_column-4.ensures)
    ∙ round_back_joined s k (omega arith) (omega arith)
