use Rattle.std.proofs.Common.{◌≡◌, ◌++◌, ◌-◌, ◌≤◌, length}
use Rattle.chpw_import.specs.Rows.{first_rows, service_row}
use Rattle.chpw_import.proofs.rows.service_of.Given as goal

abbrev pub invariant-loop-slot : goal.invariant-loop-slot
invariant-loop-slot l =
    (goal.iterator-loop-slot).can_next l.slot-iterator ×
    (goal.iterator-loop-slot).is_finite l.slot-iterator ×
    (l.rows.items ++ first_rows service_row (16 - length l.rows.items) l.slot-iterator ≡ first_rows service_row 16 l.found.entries) ×
    (length l.rows.items ≤ 16)
