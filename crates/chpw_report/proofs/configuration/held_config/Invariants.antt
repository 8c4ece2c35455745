use Rattle.std.proofs.Common.{◌≡◌, ◌≤◌, ◌-◌, map, take, length}
use Rattle.chpw_report.specs.Configurations.{row_of, names_of}
use Rattle.chpw_report.proofs.configuration.held_config.Given as goal

abbrev pub invariant-loop-name : goal.invariant-loop-name
invariant-loop-name l =
    (l.rows.items ≡ map (row_of l.table.state) (take l.place (names_of l.table.state)))
    × (l.place ≤ length (names_of l.table.state))

abbrev pub decreases-loop-name : goal.decreases-loop-name
decreases-loop-name l = length (names_of l.table.state) - l.place
