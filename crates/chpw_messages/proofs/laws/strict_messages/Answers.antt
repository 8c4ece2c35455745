use Rattle.chpw_messages.proofs.StrictLemmas.{loose_messages_are_bad_private, other_messages_open_alike, strict_messages_open}
use Rattle.chpw_messages.proofs.laws.strict_messages.Goals as goal

pub returns : goal.returns
returns c = record { loose = loose_messages_are_bad_private; strict = strict_messages_open; others = other_messages_open_alike }
