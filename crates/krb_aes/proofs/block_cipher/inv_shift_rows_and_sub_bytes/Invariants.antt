use Rattle.std.proofs.Common.{◌≡◌, ℕ, ◌<◌, length, get_or}
use Rattle.krb_aes.specs.Aes.{inv_sub_bytes, inv_shift_rows}
use Rattle.krb_aes.proofs.block_cipher.inv_shift_rows_and_sub_bytes.Given as goal

abbrev pub invariant-loop-k : goal.invariant-loop-k
invariant-loop-k l =
    (length l.out ≡ 16) × ((k : ℕ) → k < l.k → get_or l.out k 0 ≡ get_or (inv_sub_bytes (inv_shift_rows l.state)) k 0)
