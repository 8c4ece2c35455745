use Rattle.std.proofs.Common.{◌≡◌, take, drop}
use Rattle.chpw_rules.specs.Fitting.{are_distinct, none_again}
use Rattle.chpw_rules.proofs.fitting.are_distinct.Given as goal

-- the elements to come decide
abbrev pub invariant-loop-place : goal.invariant-loop-place
invariant-loop-place g l =
    are_distinct g.T.Identified.same l.fn.list
    ≡ none_again g.T.Identified.same (take l.place l.list) (drop l.place l.list)
