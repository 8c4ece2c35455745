use Rattle.std.proofs.Common.{◌≡◌, ℕ, ◌<◌, length, get_or}
use Rattle.krb_aes.specs.Aes.{shift_rows, sub_bytes}
use Rattle.krb_aes.proofs.block_cipher.sub_bytes_and_shift_rows.Given as goal

abbrev pub invariant-loop-k : goal.invariant-loop-k
invariant-loop-k l =
    (length l.out ≡ 16) × ((k : ℕ) → k < l.k → get_or l.out k 0 ≡ get_or (shift_rows (sub_bytes l.state)) k 0)
