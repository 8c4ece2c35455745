use Rattle.chpw_slots.proofs.slots.Slots.longest_of.Given as goal
use Rattle.chpw_slots.proofs.WaitLemmas.{IsLongestOfBelow}

abbrev pub invariant-loop-slot : goal.invariant-loop-slot
invariant-loop-slot l = IsLongestOfBelow l.self.connections l.peer l.longest l.slot
