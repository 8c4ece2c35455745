use Rattle.std.proofs.Common.{length, sym, ap, subst, arith}
use Rattle.std.specs.List.Sorted.{IsStrictlySortedBy}
use Rattle.chpw_ordered_keys.proofs.OrderLemmas.{sorted_first, first_length}
use Rattle.chpw_table.specs.Holding.{id_cmp}
use Rattle.chpw_table.proofs.OrderLemmas.{ids_total}
use Rattle.chpw_table.proofs.table.step.put_ids.Goals as goal

pub forget-requires-clause-sorted : goal.forget-requires-clause-sorted
forget-requires-clause-sorted c = subst (IsStrictlySortedBy id_cmp)
    (sym c.put.ensures.value) (sorted_first id_cmp ids_total c.args.used.now c.args.ids c.requires.sorted)

pub forget-requires-clause-few : goal.forget-requires-clause-few
forget-requires-clause-few c = omega (arith, ap length c.put.ensures.value, first_length id_cmp ids_total c.args.used.now c.args.ids, c.requires.few)
