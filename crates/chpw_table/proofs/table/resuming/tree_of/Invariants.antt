use Rattle.chpw_table.specs.Holding.{HoldsIds}
use Rattle.chpw_table.proofs.table.resuming.tree_of.Given as goal

abbrev pub invariant-loop-id : goal.invariant-loop-id
invariant-loop-id l = HoldsIds l.clock l.yielded l.used
