use Rattle.std.proofs.Common.{◌≤◌}
use Rattle.chpw_slots.specs.Slots.{held_in}
use Rattle.chpw_connections.specs.Held.{slots_of}
use Rattle.chpw_connections.specs.Rest.{Rest}
use Rattle.chpw_connection.specs.Confirming.{Withdraws}
use Rattle.chpw_connections.proofs.ConfirmLemmas.{HappenedBelow}
use Rattle.chpw_connections.proofs.set.Connections.withdraw.Given as goal

abbrev pub invariant-loop-slot : goal.invariant-loop-slot
invariant-loop-slot l = record {
  withdrawn : HappenedBelow (Withdraws l.ticket) (slots_of l.fn.self) (slots_of l.self) l.slot;
  held : held_in (slots_of l.self) ≤ held_in (slots_of l.fn.self);
  rest : Rest l.fn.self l.self;
}
