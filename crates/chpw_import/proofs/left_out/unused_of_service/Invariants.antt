use Rattle.std.proofs.Common.{◌≡◌, length}
use Rattle.std.specs.List.{list_any}
use Rattle.chpw_import.specs.LeftOut.{is_key_of}
use Rattle.chpw_import.proofs.left_out.unused_of_service.Given as goal

abbrev pub invariant-loop-others : goal.invariant-loop-others
invariant-loop-others l = list_any (is_key_of l.entry) l.service ≡ list_any (is_key_of l.entry) l.others

abbrev pub decreases-loop-others : goal.decreases-loop-others
decreases-loop-others l = length l.others
