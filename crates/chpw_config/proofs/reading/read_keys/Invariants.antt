use Rattle.chpw_config.specs.Rows.{key_row}
use Rattle.chpw_config.proofs.WalkLemmas.{Walked}
use Rattle.chpw_config.proofs.reading.read_keys.Given as goal

-- the elements to come decide
abbrev pub invariant-loop-value : goal.invariant-loop-value
invariant-loop-value l = Walked (key_row l.at) l.list l.keys.items l.value-index
