use Rattle.chpw_desks.proofs.ServiceRunLemmas.{run_is_service_run}
use Rattle.chpw_service.proofs.laws.runs.Goals as goal

pub returns : goal.returns
returns g c = record { histories = run_is_service_run }
