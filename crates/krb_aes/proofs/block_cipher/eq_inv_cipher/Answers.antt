use Rattle.std.proofs.Common.{◌≡◌, ◌-◌, ◌∙◌, sym, ℕ, arith, refl}
use Rattle.krb_aes.specs.Aes.{inv_rounds, inv_cipher}
use Rattle.krb_aes.proofs.EquivalentInverse.{unrounds_back}
use Rattle.krb_aes.proofs.block_cipher.eq_inv_cipher.Goals as goal

pub loop-round-init : goal.loop-round-init
unfolding inv_cipher
loop-round-init c = rw c.add_round_key.ensures refl

pub loop-round-preserved : goal.loop-round-preserved
loop-round-preserved c =
    let r : ℕ = c.loop-round.round - 1 in
    rw (c.deciphering_round.ensures, c.round_key.ensures)
    (sym (unrounds_back c.args.back.now c.args.words.now c.loop-round.block c.args.rounds r c.requires.back
    (omega arith) (omega arith)) ∙ c.loop-round.invariant)

pub returns : goal.returns
unfolding inv_rounds
returns c =
    let last : c.loop-round.round - 1 ≡ 0 = omega arith in
    rw (c.add_round_key-2.ensures, c.inv_shift_rows_and_sub_bytes.ensures) (rw last at c.loop-round.invariant)
