-- A tree may go to another thread where its keys may. The search for this ends here, and need not go through
-- the nodes for each type that holds a tree.
use denote.RattleType.{RattleType}
use denote.Param.Send.{IsSend, sendable}
use Rattle.std.proofs.Crossing
use Rattle.std.proofs.option.Option.TheSendSync as option
use Rattle.chpw_ordered_keys.specs.contracts.tree.KeyTree.{the_row}
use Rattle.chpw_ordered_keys.proofs.tree.KeyTree.TheLaws.TheKnot

pub tree_send : (K : RattleType) → IsSend K → IsSend (the_row K)
tree_send K s = search (option.the_send, Crossing.crosses, TheKnot.crosses, sendable) depth 60
