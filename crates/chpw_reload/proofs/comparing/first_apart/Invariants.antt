use Rattle.std.proofs.Common.{◌≤◌, ◌-◌, take, length, All}
use Rattle.chpw_rules.specs.declared.name.Name.{Name}
use Rattle.chpw_report.specs.Configurations.{names_of}
use Rattle.chpw_reload.specs.Comparing.{HoldAlike}
use Rattle.chpw_reload.proofs.comparing.first_apart.Given as goal

abbrev pub invariant-loop-name : goal.invariant-loop-name
invariant-loop-name l =
    All (λ (name : Name). HoldAlike l.closed.state l.renewed.state name) (take l.place (names_of l.closed.state))
    × (l.place ≤ length (names_of l.closed.state))

abbrev pub decreases-loop-name : goal.decreases-loop-name
decreases-loop-name l = length (names_of l.closed.state) - l.place
