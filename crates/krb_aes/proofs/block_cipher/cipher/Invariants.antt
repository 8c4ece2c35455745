use Rattle.std.proofs.Common.{◌≡◌, ◌-◌}
use Rattle.krb_aes.specs.Aes.{rounds}
use Rattle.krb_aes.proofs.block_cipher.cipher.Given as goal

abbrev pub invariant-loop-round : goal.invariant-loop-round
invariant-loop-round l = l.block ≡ rounds l.words (l.round - 1) l.fn.block
