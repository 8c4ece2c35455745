use Rattle.krb_keys.proofs.SealingLemmas.{sealed_once}
use Rattle.krb_keys.proofs.laws.one_plain_text.Goals as goal

pub returns : goal.returns
returns c = record { only = sealed_once }
