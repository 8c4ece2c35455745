use Rattle.std.proofs.Common.{◌≡◌, ◌≤◌}
use Rattle.chpw_slots.specs.Slots.{held_in}
use Rattle.chpw_connections.specs.Held.{slots_of}
use Rattle.chpw_connections.specs.Rest.{Rest}
use Rattle.chpw_connections.specs.Queues.{queues_of}
use Rattle.chpw_connection.specs.Confirming.{Confirms, is_confirmed_in}
use Rattle.chpw_connections.specs.Noting.{noted_by, NotesEach, slots_below}
use Rattle.chpw_connections.proofs.ConfirmLemmas.{HappenedBelow}
use Rattle.chpw_connections.proofs.set.Connections.confirm.Given as goal

abbrev pub invariant-loop-slot : goal.invariant-loop-slot
invariant-loop-slot l = record {
  confirmed : HappenedBelow (Confirms l.ticket l.now) (slots_of l.fn.self) (slots_of l.self) l.slot;
  notes : NotesEach (noted_by l.fn.self) (noted_by l.self) (slots_below (is_confirmed_in l.ticket) (slots_of l.fn.self) l.slot);
  held : held_in (slots_of l.self) ≤ held_in (slots_of l.fn.self);
  rest : Rest l.fn.self l.self;
  queues : queues_of l.self ≡ queues_of l.fn.self;
}
