use Rattle.krb_msgs.proofs.LengthLemmas.{short_texts_fit, texts_are_short}
use Rattle.krb_msgs.proofs.laws.lengths.Goals as goal

pub returns : goal.returns
returns c = record { short = texts_are_short; fits = short_texts_fit }
