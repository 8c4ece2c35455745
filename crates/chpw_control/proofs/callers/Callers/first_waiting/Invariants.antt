use Rattle.chpw_control.proofs.callers.Callers.first_waiting.Given as goal
use Rattle.chpw_control.proofs.SeatLemmas.{IsFirstBelow}

abbrev pub invariant-loop-slot : goal.invariant-loop-slot
invariant-loop-slot l = IsFirstBelow l.self.seats l.order l.first l.slot
