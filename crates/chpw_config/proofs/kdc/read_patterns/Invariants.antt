use Rattle.chpw_config.specs.Kdc.{pattern_row}
use Rattle.chpw_config.proofs.WalkLemmas.{Walked}
use Rattle.chpw_config.proofs.kdc.read_patterns.Given as goal

-- the elements to come decide
abbrev pub invariant-loop-value : goal.invariant-loop-value
invariant-loop-value l = Walked (pattern_row l.part) l.list l.patterns.items l.value-index
