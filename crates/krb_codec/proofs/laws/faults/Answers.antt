use Rattle.krb_codec.proofs.PlaceLemmas.{faults_within}
use Rattle.krb_codec.proofs.laws.faults.Goals as goal

pub returns : goal.returns
returns c = faults_within
