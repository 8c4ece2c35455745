use Rattle.chpw_invocation.proofs.ListeningLemmas.{all_listed, all_refused, first_of_all_refused}
use Rattle.chpw_invocation.proofs.addresses.addresses_of.Goals as goal

pub returns-in-Ok-clause-value : goal.returns-in-Ok-clause-value
returns-in-Ok-clause-value c =
    all_listed c.args.texts.now _ c.in-Ok.address c.addresses_from.result c.in-len1-up.len_at_least c.in-Ok.ensures.address
    c.addresses_from.ensures.value

pub returns-in-Ok-clause-refused : goal.returns-in-Ok-clause-refused
returns-in-Ok-clause-refused c =
    all_refused c.args.texts.now _ c.in-Ok.address c.addresses_from.result c.in-len1-up.len_at_least c.in-Ok.ensures.address
    c.addresses_from.ensures.refused

pub returns-in-Err-clause-refused : goal.returns-in-Err-clause-refused
returns-in-Err-clause-refused c =
    first_of_all_refused c.args.texts.now _ c.in-Err.refusal c.in-len1-up.len_at_least c.in-Err.ensures.none
