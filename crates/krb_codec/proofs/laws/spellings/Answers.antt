use Rattle.krb_codec.proofs.CompleteLemmas.{one_value, no_prefix}
use Rattle.krb_codec.proofs.TextLemmas.{text_spells}
use Rattle.krb_codec.proofs.OneTextLemmas.{one_text}
use Rattle.krb_codec.proofs.laws.spellings.Goals as goal

pub returns-clause-text : goal.returns-clause-text
returns-clause-text c = text_spells

pub returns-clause-one_value : goal.returns-clause-one_value
returns-clause-one_value c = one_value

pub returns-clause-no_prefix : goal.returns-clause-no_prefix
returns-clause-no_prefix c = no_prefix

pub returns-clause-one_text : goal.returns-clause-one_text
returns-clause-one_text c = one_text
