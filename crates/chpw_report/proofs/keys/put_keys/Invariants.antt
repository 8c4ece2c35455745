use Rattle.std.proofs.Common.{◌≡◌, ◌++◌, length}
use Rattle.std.specs.List.{flat_map}
use Rattle.chpw_report.specs.Reports.{row_lines}
use Rattle.chpw_report.proofs.keys.put_keys.Given as goal

abbrev pub invariant-loop-others : goal.invariant-loop-others
invariant-loop-others l =
    l.text.items ++ flat_map (row_lines l.printed.principal.items l.printed.salt.items) l.others
    ≡ l.fn.text.items ++ flat_map (row_lines l.printed.principal.items l.printed.salt.items) l.rows

abbrev pub decreases-loop-others : goal.decreases-loop-others
decreases-loop-others l = length l.others
