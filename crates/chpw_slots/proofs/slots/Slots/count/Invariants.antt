use Rattle.std.proofs.Common.{◌≡◌, ◌≤◌}
use Rattle.chpw_connection.specs.Counting.{one_at}
use Rattle.chpw_slots.proofs.CountLemmas.{below}
use Rattle.chpw_slots.proofs.slots.Slots.count.Given as goal

abbrev pub invariant-loop-slot : goal.invariant-loop-slot
invariant-loop-slot l = (l.count ≡ below (one_at l.which) l.self.connections l.slot) × (l.count ≤ l.slot)
