use Rattle.std.proofs.Common.{◌≡◌, ◌++◌, ◌-◌, ◌+◌, ◌≤◌, length}
use Rattle.chpw_warnings.specs.Rules.{rule_warnings}
use Rattle.chpw_warnings.proofs.rules.put_rule_warnings.Given as goal

-- the warnings of the rest come behind those so far
abbrev pub invariant-loop-others : goal.invariant-loop-others
invariant-loop-others g l =
    let known = g.N.PrincipalNames.has l.names in
    (l.warnings.items ++ rule_warnings known (length l.rules - length l.others + 1) l.others
    ≡ l.initial.warnings.items ++ rule_warnings known 1 l.rules) × (length l.others ≤ length l.rules)

abbrev pub decreases-loop-others : goal.decreases-loop-others
decreases-loop-others g l = length l.others
