use Rattle.std.proofs.Common.{◌≡◌, ◌<◌, ◌^◌, ◌*◌, drop}
use Rattle.krb_codec.specs.Integers.{number}
use Rattle.std.specs.Int.Digits.{number_from_digits_after}
use Rattle.krb_codec.proofs.region.number_of.Given as goal

abbrev pub invariant-loop-b : goal.invariant-loop-b
invariant-loop-b l = record { value : number_from_digits_after 256 l.n (drop l.b-index l.bytes) ≡ number l.bytes; below : l.n < 2 ^ (8 * l.b-index) }
