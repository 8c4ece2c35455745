use Rattle.std.proofs.Common.{◌≡◌}
use Rattle.chpw_control.specs.Seats.{ordering_of}
use Rattle.chpw_transfers.proofs.control.Control.next_order.Given as goal

abbrev pub invariant-loop-slot : goal.invariant-loop-slot
invariant-loop-slot l =
    (ordering_of l.self.callers ≡ ordering_of l.initial.self.callers) × (l.self.is_stopping ≡ l.initial.self.is_stopping)
    × (l.self.is_paused ≡ l.initial.self.is_paused) × (l.self.is_over ≡ l.initial.self.is_over)
