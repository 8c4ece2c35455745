use Rattle.std.proofs.Common.{◌≡◌, ◌≤◌, ◌-◌, filter, take, length}
use Rattle.chpw_report.specs.Configurations.{names_of}
use Rattle.chpw_reload.specs.Next.{is_unknown}
use Rattle.chpw_reload.proofs.lacking.missing_names.Given as goal

abbrev pub invariant-loop-name : goal.invariant-loop-name
invariant-loop-name l =
    (l.names.items ≡ filter (is_unknown l.renewed.state) (take l.place (names_of l.closed.state)))
    × (l.place ≤ length (names_of l.closed.state))

abbrev pub decreases-loop-name : goal.decreases-loop-name
decreases-loop-name l = length (names_of l.closed.state) - l.place
