use Rattle.chpw_table.proofs.ResumingLemmas.{resumed_is_left, replay_over_resume, older_is_skew}
use Rattle.chpw_table.proofs.laws.resuming.Goals as goal

pub returns : goal.returns
returns c = record { left = resumed_is_left; replay = replay_over_resume; older = older_is_skew }
