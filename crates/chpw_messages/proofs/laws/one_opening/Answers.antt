use Rattle.chpw_messages.proofs.OneOpeningLemmas.{messages_open_once}
use Rattle.chpw_messages.proofs.laws.one_opening.Goals as goal

pub returns : goal.returns
returns c = record { message = messages_open_once }
