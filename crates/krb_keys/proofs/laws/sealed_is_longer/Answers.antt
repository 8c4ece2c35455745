use Rattle.krb_keys.proofs.SealingLemmas.{length-sealed}
use Rattle.krb_keys.proofs.laws.sealed_is_longer.Goals as goal

pub returns : goal.returns
returns c = record { len = length-sealed }
