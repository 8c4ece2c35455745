use Rattle.std.proofs.Common.{List, ℕ, ◌<◌, ap, ◌∙◌, arith}
use Rattle.std.proofs.lemmas.List.Elements.{All-from_get_or}
use Rattle.krb_aes.specs.Aes.{inv_mix_columns, inv_sub_bytes, inv_shift_rows}
use Rattle.krb_aes.proofs.BytesLemmas.{xor_bytes-zeros}
use Rattle.krb_aes.proofs.InverseSteps.{substituted_back-substituted}
use Rattle.krb_aes.proofs.block_cipher.inv_mix_columns.Goals as goal

pub returns : goal.returns
returns c =
    let s = c.args.state.now in
    c.deciphering_round.ensures ∙ xor_bytes-zeros _ 16
    ∙ ap (λ (t : List ℕ). inv_mix_columns (inv_sub_bytes (inv_shift_rows t))) c.sub_bytes_and_shift_rows.ensures
    ∙ ap inv_mix_columns (substituted_back-substituted s (omega arith, All-from_get_or (λ (x : ℕ). x < 256) s 0 (λ k h. let f = c.fits-state k in omega arith)))
