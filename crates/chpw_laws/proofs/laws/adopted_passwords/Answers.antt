use Rattle.chpw_laws.proofs.AdoptionLemmas.{adopted_is_compared, adopted_is_refused}
use Rattle.chpw_laws.proofs.RestartLemmas.{adopted_is_refused_over_restarts}
use Rattle.chpw_laws.proofs.laws.adopted_passwords.Goals as goal

pub returns : goal.returns
returns c = record { until = adopted_is_compared; refused = adopted_is_refused; restarts = adopted_is_refused_over_restarts }
