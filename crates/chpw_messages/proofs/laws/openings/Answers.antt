use Rattle.chpw_messages.proofs.RequestLemmas.{frames_open, parts_open}
use Rattle.chpw_messages.proofs.laws.openings.Goals as goal

pub returns : goal.returns
returns c = record { parts = parts_open; frames = frames_open }
