use Rattle.krb_msgs.proofs.OneAnswerLemmas.{ap_reqs_open_alike}
use Rattle.krb_msgs.proofs.laws.sealed_parts.Goals as goal

pub returns : goal.returns
returns c = record { ap_req = ap_reqs_open_alike }
