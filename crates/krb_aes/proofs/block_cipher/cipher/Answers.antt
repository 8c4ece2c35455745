use Rattle.std.proofs.Common.{◌≡◌, sym, arith, refl}
use Rattle.krb_aes.specs.Aes.{rounds, cipher, add_round_key}
use Rattle.krb_aes.proofs.StateLemmas.{rounds_more}
use Rattle.krb_aes.proofs.block_cipher.cipher.Goals as goal

pub loop-round-init : goal.loop-round-init
unfolding rounds
loop-round-init c = c.add_round_key.ensures

pub loop-round-preserved : goal.loop-round-preserved
unfolding add_round_key
loop-round-preserved c =
    rw (c.enciphering_round.ensures, c.round_key.ensures, c.loop-round.invariant)
    (sym (rounds_more c.args.words.now c.args.block.now c.loop-round.round (omega arith)))

pub returns : goal.returns
unfolding cipher
returns c =
    let last : c.loop-round.round ≡ c.args.rounds = omega arith in
    rw (c.add_round_key-2.ensures, c.sub_bytes_and_shift_rows.ensures, c.loop-round.invariant, last) refl
