use Rattle.chpw_reload.proofs.ReloadLemmas.{later_starts_find, later_starts_read, starts_know_all, starts_find_again}
use Rattle.chpw_reload.proofs.laws.later_starts.Goals as goal

pub returns-clause-find : goal.returns-clause-find
returns-clause-find c = later_starts_find

pub returns-clause-read : goal.returns-clause-read
returns-clause-read c = later_starts_read

pub returns-clause-known : goal.returns-clause-known
returns-clause-known c = starts_know_all

pub returns-clause-again : goal.returns-clause-again
returns-clause-again c = starts_find_again
