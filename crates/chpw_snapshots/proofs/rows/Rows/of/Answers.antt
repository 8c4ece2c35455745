use Rattle.std.proofs.Common.{rules}
use Rattle.chpw_snapshots.proofs.AddedLemmas.{none_ordered}
use Rattle.chpw_snapshots.proofs.rows.Rows.of.Goals as goal

pub invariant_of-result : goal.invariant_of-result
invariant_of-result c = (
  c.requires.kept.0,
  c.requires.kept.1,
  c.requires.order,
  none_ordered c.in_ok-added.added.items c.in_ok-added.ensures.empty,
  search rules,
)
