use Rattle.std.proofs.Common.{◌≡◌, length}
use Rattle.chpw_import.specs.LeftOut.{has_version}
use Rattle.chpw_import.proofs.left_out.has_version.Given as goal

abbrev pub invariant-loop-others : goal.invariant-loop-others
invariant-loop-others l = has_version l.kvno l.keys ≡ has_version l.kvno l.others

abbrev pub decreases-loop-others : goal.decreases-loop-others
decreases-loop-others l = length l.others
