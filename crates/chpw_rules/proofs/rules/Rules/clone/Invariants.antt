use Rattle.std.proofs.Common.{◌≡◌, take}
use Rattle.chpw_rules.proofs.rules.Rules.clone.Given as goal

abbrev pub invariant-loop-rule : goal.invariant-loop-rule
invariant-loop-rule l = l.copies.items ≡ take l.rule-index l.rules
