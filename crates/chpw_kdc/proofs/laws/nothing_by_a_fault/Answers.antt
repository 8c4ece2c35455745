use Rattle.chpw_kdc.proofs.FaultLemmas.{faults_change_nothing}
use Rattle.chpw_kdc.proofs.laws.nothing_by_a_fault.Goals as goal

pub returns : goal.returns
returns c = faults_change_nothing
