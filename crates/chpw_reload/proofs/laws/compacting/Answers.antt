use Rattle.chpw_reload.proofs.CompactingLemmas.{reloads_may_compact, starts_may_compact}
use Rattle.chpw_reload.proofs.laws.compacting.Goals as goal

pub returns : goal.returns
returns c = record { reload = reloads_may_compact; start = starts_may_compact }
