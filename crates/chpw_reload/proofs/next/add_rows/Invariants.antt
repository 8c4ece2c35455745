use Rattle.std.proofs.Common.{◌≡◌, ◌++◌, map, take}
use Rattle.chpw_report.specs.Configurations.{row_of}
use Rattle.chpw_reload.proofs.next.add_rows.Given as goal

abbrev pub invariant-loop-name : goal.invariant-loop-name
invariant-loop-name l = l.rows.items ≡ l.fn.rows.items ++ map (row_of l.table.state) (take l.name-index l.names)
