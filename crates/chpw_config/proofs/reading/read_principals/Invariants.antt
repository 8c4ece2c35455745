use Rattle.chpw_config.specs.Seen.{Knows}
use Rattle.chpw_config.specs.Rows.{names_of, principal_row}
use Rattle.chpw_config.proofs.WalkLemmas.{Walked}
use Rattle.chpw_config.proofs.reading.read_principals.Given as goal

-- the elements to come decide, and the names so far are known
abbrev pub invariant-loop-value : goal.invariant-loop-value
invariant-loop-value l = record {
  walked : Walked principal_row l.list l.rows.items l.value-index;
  known : Knows l.seen (names_of l.rows.items);
}
