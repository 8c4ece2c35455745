use Rattle.std.proofs.Common.{◌≡◌, ◌-◌, ◌*◌, length, take}
use Rattle.krb_aes.specs.KeyExpansion.{expanded}
use Rattle.krb_aes.proofs.key_schedule.key_expansion.Given as goal

abbrev pub invariant-loop-i : goal.invariant-loop-i
invariant-loop-i l = (length l.words ≡ 240) × (take (4 * l.i) l.words ≡ expanded l.key (l.i - l.key_words))
