use Rattle.chpw_reload.proofs.RunLemmas.{runs_go_on, reload_goes_on, in_a_row_follow_on}
use Rattle.chpw_reload.proofs.laws.runs.Goals as goal

pub returns-clause-go_on : goal.returns-clause-go_on
returns-clause-go_on c = runs_go_on

pub returns-clause-reload : goal.returns-clause-reload
returns-clause-reload c = reload_goes_on

pub returns-clause-in_a_row : goal.returns-clause-in_a_row
returns-clause-in_a_row c = in_a_row_follow_on
