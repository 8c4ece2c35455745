use Rattle.chpw_reload.proofs.AlikeLemmas.{files_go_on}
use Rattle.chpw_reload.proofs.laws.files.Goals as goal

pub returns : goal.returns
returns c = record { go_on = files_go_on }
