use Rattle.std.proofs.Common.{rules}
use Rattle.chpw_table.proofs.HeldIdLemmas.{held_beside, sorted_held}
use Rattle.chpw_table.proofs.table.Table.tick.Goals as goal

pub invariant_of-self : goal.invariant_of-self
invariant_of-self c = (
  search rules,
  search rules,
  search rules,
  search rules,
  search rules,
  search rules,
  rw c.put_ids.ensures.value (held_beside _ _ _ _ _ c.self.invariant.6),
  rw c.put_ids.ensures.value (sorted_held _ _ _ c.self.invariant.7),
  search (rules, c.put_ids.ensures.young),
  search rules,
  search rules,
)
