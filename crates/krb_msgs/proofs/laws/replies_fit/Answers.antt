use Rattle.krb_msgs.proofs.ReplyFittingLemmas.{ap_rep_parts_fit, errors_fit, priv_parts_fit}
use Rattle.krb_msgs.proofs.laws.replies_fit.Goals as goal

pub returns : goal.returns
returns c = record { ap_rep_part = ap_rep_parts_fit; krb_priv_part = priv_parts_fit; krb_error = errors_fit }
