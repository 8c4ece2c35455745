use Rattle.std.proofs.Common.{◌≡◌, ◌++◌, ◌-◌, ◌≤◌, length}
use Rattle.std.specs.BTreeMap.{get}
use Rattle.chpw_import.specs.Tables.{slot_cmp}
use Rattle.chpw_import.specs.Rows.{first_rows, row_for}
use Rattle.chpw_import.proofs.rows.principals_of.Given as goal

abbrev pub invariant-loop-name : goal.invariant-loop-name
invariant-loop-name l =
    let row = row_for (get slot_cmp l.table.found) l.iterations in
    (goal.iterator-loop-name).can_next l.name-iterator ×
    (goal.iterator-loop-name).is_finite l.name-iterator ×
    (l.rows.items ++ first_rows row (10000 - length l.rows.items) l.name-iterator ≡ first_rows row 10000 l.table.newest.entries) ×
    (length l.rows.items ≤ 10000)
