use Rattle.std.proofs.Common.{◌≡◌, ◌++◌, ◌-◌, ◌≤◌, length}
use Rattle.std.specs.BTreeMap.{get}
use Rattle.chpw_import.specs.Tables.{slot_cmp}
use Rattle.chpw_import.specs.Rows.{keys_from, pair_for}
use Rattle.chpw_import.proofs.rows.keys_of.Given as goal

abbrev pub invariant-loop-alloc : goal.invariant-loop-alloc
invariant-loop-alloc l =
    let pair = pair_for (get slot_cmp l.found) l.iterations l.name in
    (l.keys.items ++ keys_from pair (16 - length l.keys.items) l.kvno ≡ keys_from pair 16 l.newest) × (length l.keys.items ≤ 16)

abbrev pub decreases-loop-alloc : goal.decreases-loop-alloc
decreases-loop-alloc l = l.kvno
