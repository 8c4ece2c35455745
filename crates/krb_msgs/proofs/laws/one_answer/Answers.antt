use Rattle.krb_msgs.proofs.OneAnswerLemmas.{ap_reqs_open_once, privs_open_once, replies_open_once}
use Rattle.krb_msgs.proofs.laws.one_answer.Goals as goal

pub returns : goal.returns
returns c = record { ap_req = ap_reqs_open_once; krb_priv = privs_open_once; reply = replies_open_once }
