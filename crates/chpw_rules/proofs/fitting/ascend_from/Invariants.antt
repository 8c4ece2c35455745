use Rattle.std.proofs.Common.{◌≡◌, drop}
use Rattle.chpw_rules.specs.Ascending.{ascend_from}
use Rattle.chpw_rules.proofs.fitting.ascend_from.Given as goal

-- the principals to come decide
abbrev pub invariant-loop-row : goal.invariant-loop-row
invariant-loop-row l =
    ascend_from l.fn.first l.fn.principals ≡ ascend_from l.last (drop l.row-index l.principals)
