use Rattle.std.proofs.Common.{length, ap, ◌∙◌, arith}
use Rattle.krb_aes.specs.Aes.{inv_mix_columns}
use Rattle.krb_aes.proofs.StateLemmas.{length-times_matrix}
use Rattle.krb_aes.proofs.EquivalentInverse.{mixed_more}
use Rattle.krb_aes.proofs.block_cipher.key_expansion_eic.Goals as goal

pub loop-round-init : goal.loop-round-init
loop-round-init c = λ r low high. absurd (omega arith)

pub loop-round-preserved : goal.loop-round-preserved
loop-round-preserved c =
    let is = c.copy_from_slice.ensures.after ∙ c.inv_mix_columns-key.ensures ∙ ap inv_mix_columns c.round_key.ensures in
    mixed_more c.loop-round.back c.args.words.now c.copy_from_slice.new.self c.loop-round.round _ (omega arith)
    (omega (arith, c.inv_mix_columns-key.array_long)) (ap length is ∙ length-times_matrix 14 11 13 9 _) c.loop-round.invariant is

pub returns : goal.returns
returns c = λ r low high. c.loop-round.invariant r low (omega arith)
