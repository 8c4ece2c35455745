use Rattle.chpw_config.specs.Rows.{rule_row}
use Rattle.chpw_config.proofs.WalkLemmas.{Walked}
use Rattle.chpw_config.proofs.reading.read_rules.Given as goal

-- the elements to come decide
abbrev pub invariant-loop-value : goal.invariant-loop-value
invariant-loop-value l = Walked rule_row l.list l.rules.items l.value-index
