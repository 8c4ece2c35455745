use Rattle.std.proofs.Common.{length}
use Rattle.krb_keys.proofs.ComparingLemmas.{IsSoFar}
use Rattle.krb_keys.proofs.comparing.differences.Given as goal

abbrev pub invariant-loop-rest : goal.invariant-loop-rest
invariant-loop-rest l = IsSoFar l.one l.other l.rest l.others l.differences

abbrev pub decreases-loop-rest : goal.decreases-loop-rest
decreases-loop-rest l = length l.rest
