use Rattle.std.proofs.Common.{◌≡◌, ◌++◌, ◌-◌, ◌≤◌, length}
use Rattle.std.specs.BTreeMap.{get}
use Rattle.chpw_import.specs.Tables.{newest_at, slot_cmp}
use Rattle.chpw_import.specs.LeftOut.{told_from, why_left}
use Rattle.chpw_import.proofs.left_out.left_of.Given as goal

abbrev pub invariant-loop-rest : goal.invariant-loop-rest
invariant-loop-rest l =
    let why = why_left l.realm (get slot_cmp l.used.table.now.found) (newest_at l.used.table.now.newest) l.used.service.now l.used.principals.now in
    (l.left.items ++ told_from why (length l.entries - length l.rest) l.rest ≡ told_from why 0 l.entries) × (length l.rest ≤ length l.entries)

abbrev pub decreases-loop-rest : goal.decreases-loop-rest
decreases-loop-rest l = length l.rest
