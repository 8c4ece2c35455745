use Rattle.std.proofs.Common.{◌≡◌, ◌+◌, ◌*◌, ◌^◌, ◌+ℤ◌, ◌<ℤ◌, ◌≤ℤ◌, ◌∷◌, pos, take, nat_lt, if◌then◌else◌}
use Rattle.krb_codec.specs.Integers.{number}
use Rattle.krb_codec.proofs.integer.signed_from.Given as goal

abbrev pub invariant-loop-byte : goal.invariant-loop-byte
invariant-loop-byte l = record {
  value : l.n +ℤ pos (if nat_lt l.fn.first 128 then 0 else 256 ^ (l.byte-index + 1)) ≡ pos (number (l.fn.first ∷ take l.byte-index l.rest));
  above : pos 0 ≤ℤ (l.n +ℤ pos (128 * 256 ^ l.byte-index));
  below : l.n <ℤ pos (128 * 256 ^ l.byte-index);
}
