use Rattle.krb_msgs.proofs.OpeningLemmas.{ap_reqs_open, errors_open, privs_open, replies_open}
use Rattle.krb_msgs.proofs.laws.openings.Goals as goal

pub returns : goal.returns
returns c = record { ap_req = ap_reqs_open; krb_priv = privs_open; reply = replies_open; krb_error = errors_open }
