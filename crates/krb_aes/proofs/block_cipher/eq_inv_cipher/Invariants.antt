use Rattle.std.proofs.Common.{◌≡◌, ◌-◌}
use Rattle.krb_aes.specs.Aes.{inv_sub_bytes, inv_shift_rows, inv_rounds, inv_cipher}
use Rattle.krb_aes.proofs.block_cipher.eq_inv_cipher.Given as goal

abbrev pub invariant-loop-round : goal.invariant-loop-round
invariant-loop-round l = inv_rounds l.words (l.round - 1) (inv_sub_bytes (inv_shift_rows l.block)) ≡ inv_cipher l.words l.rounds l.fn.block
