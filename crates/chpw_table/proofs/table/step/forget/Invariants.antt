use Rattle.std.proofs.Common.{◌≡◌, ◌≤◌, length}
use Rattle.std.specs.List.Sorted.{IsStrictlySortedBy}
use Rattle.chpw_table.specs.Holding.{id_cmp, young_ids}
use Rattle.chpw_table.proofs.table.step.forget.Given as goal

abbrev pub invariant-loop-used : goal.invariant-loop-used
invariant-loop-used l = (young_ids l.fn.clock l.used ≡ young_ids l.fn.clock l.initial.used)
    × IsStrictlySortedBy id_cmp l.used × (length l.used ≤ length l.initial.used)

abbrev pub decreases-loop-used : goal.decreases-loop-used
decreases-loop-used l = length l.used
