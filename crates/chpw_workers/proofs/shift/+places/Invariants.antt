use Rattle.std.proofs.Common.{length}
use Rattle.chpw_workers.proofs.shift.+places.Given as goal

abbrev pub decreases-place_all : goal.decreases-place_all
decreases-place_all g a = length a.staff.passes.items
