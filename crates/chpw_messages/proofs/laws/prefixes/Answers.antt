use Rattle.chpw_messages.proofs.PrefixLemmas.{krb_privs_follow, prefixes_open}
use Rattle.chpw_messages.proofs.laws.prefixes.Goals as goal

pub returns : goal.returns
returns c = record { message = prefixes_open; tail = krb_privs_follow }
