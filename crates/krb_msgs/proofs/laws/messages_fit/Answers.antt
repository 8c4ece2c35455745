use Rattle.krb_msgs.proofs.FittingLemmas.{ap_reps_fit, ap_reqs_fit, privs_fit, tickets_are_short, tickets_fit}
use Rattle.krb_msgs.proofs.OpenedLemmas.{opened_times_fit}
use Rattle.krb_msgs.proofs.laws.messages_fit.Goals as goal

pub returns : goal.returns
returns c = record {
  ticket = tickets_fit;
  ticket_length = tickets_are_short;
  ap_req = ap_reqs_fit;
  ap_rep = ap_reps_fit;
  krb_priv = privs_fit;
  times = opened_times_fit;
}
