use Rattle.std.proofs.Common.{length}
use Rattle.krb_codec.proofs.integer.+without_sign.Given as goal

abbrev pub decreases-without_sign : goal.decreases-without_sign
decreases-without_sign l = length l.bytes.now
