use Rattle.std.proofs.Common.{◌≡◌, ◌≤◌}
use Rattle.chpw_connection.specs.Shares.{one_of_peer}
use Rattle.chpw_slots.proofs.CountLemmas.{below}
use Rattle.chpw_slots.proofs.slots.Slots.count_of.Given as goal

abbrev pub invariant-loop-slot : goal.invariant-loop-slot
invariant-loop-slot l = (l.count ≡ below (one_of_peer l.peer) l.self.connections l.slot) × (l.count ≤ l.slot)
