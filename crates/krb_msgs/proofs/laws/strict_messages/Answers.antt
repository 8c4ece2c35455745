use Rattle.krb_msgs.proofs.StrictLemmas.{loose_privs_are_refused, other_privs_open_alike, strict_privs_open}
use Rattle.krb_msgs.proofs.laws.strict_messages.Goals as goal

pub returns : goal.returns
returns c = record { loose = loose_privs_are_refused; strict = strict_privs_open; others = other_privs_open_alike }
