use Rattle.std.proofs.Common.{◌≡◌, ◌+◌}
use Rattle.chpw_slots.proofs.GivenLemmas.{given_below}
use Rattle.chpw_slots.proofs.slots.Slots.left_by_all.Given as goal

abbrev pub invariant-loop-slot : goal.invariant-loop-slot
invariant-loop-slot l = l.left + given_below l.who l.self.connections l.slot ≡ l.self.held
