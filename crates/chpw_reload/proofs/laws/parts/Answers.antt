use Rattle.chpw_reload.proofs.PartsLemmas.{reloaded_is_reload}
use Rattle.chpw_reload.proofs.laws.parts.Goals as goal

pub returns-clause-reload : goal.returns-clause-reload
returns-clause-reload c = reloaded_is_reload
