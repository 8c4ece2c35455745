use Rattle.krb_codec.proofs.BitStringLemmas.{flags_are_bits}
use Rattle.krb_codec.proofs.laws.flags.Goals as goal

pub returns : goal.returns
returns c = flags_are_bits
