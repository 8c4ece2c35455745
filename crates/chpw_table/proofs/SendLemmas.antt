-- A table may go to another thread. The search for this ends here, and need not go through the tree of ids for
-- each type that holds a table.
use denote.Param.Send.{IsSend, sendable}
use Rattle.std.proofs.Crossing
use Rattle.std.proofs.vec.Vec.TheSendSync as vec
use Rattle.chpw_ordered_keys.proofs.SendLemmas.{tree_send}
use Rattle.chpw_table.proofs.request.RequestId.TheSendSync as id
use Rattle.chpw_table.proofs.standing.StandingRules.TheSendSync as standing
use Rattle.chpw_table.proofs.table.Principal.TheSendSync as principal
use Rattle.chpw_table.specs.contracts.table.Table.{the_row}

pub table_send : IsSend the_row
table_send = search (tree_send, standing.the_send, id.the_send, principal.the_send, vec.the_send, Crossing.crosses, sendable) depth 60
