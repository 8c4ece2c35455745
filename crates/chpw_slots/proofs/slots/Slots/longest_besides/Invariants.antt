use Rattle.chpw_slots.proofs.slots.Slots.longest_besides.Given as goal
use Rattle.chpw_slots.proofs.WaitLemmas.{IsLongestBelow}

abbrev pub invariant-loop-slot : goal.invariant-loop-slot
invariant-loop-slot l = IsLongestBelow l.self.connections l.besides l.who l.longest l.slot
