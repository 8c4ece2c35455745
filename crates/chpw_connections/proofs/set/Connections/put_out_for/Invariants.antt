use Rattle.std.proofs.Common.{◌≡◌, true, [], ◌≤◌}
use Rattle.chpw_connections.specs.Held.{slots_of}
use Rattle.chpw_connections.specs.Rest.{Rest}
use Rattle.chpw_slots.specs.Slots.{held_in}
use Rattle.chpw_connections.specs.Queues.{queues_of}
use Rattle.chpw_connections.specs.Room.{MakesRoom, IsNeeded}
use Rattle.chpw_slots.specs.Longest.{has_room_besides}
use Rattle.chpw_connections.specs.Noting.{noted_by, NotesEnds}
use Rattle.chpw_connections.proofs.set.Connections.put_out_for.Given as goal

abbrev pub invariant-loop-who : goal.invariant-loop-who
invariant-loop-who l = record {
  makes_room : MakesRoom l.who (slots_of l.fn.self) (slots_of l.self) l.slot;
  needed : IsNeeded l.most l.count l.who (slots_of l.fn.self) (slots_of l.self) l.slot;
  enough : has_room_besides l.most l.who (slots_of l.self) l.slot l.count ≡ true;
  notes : NotesEnds l.who (slots_of l.fn.self) (slots_of l.self) l.slot (noted_by l.fn.self) (noted_by l.self) [];
  held : held_in (slots_of l.self) ≤ held_in (slots_of l.fn.self);
  rest : Rest l.fn.self l.self;
  queues : queues_of l.self ≡ queues_of l.fn.self;
}

abbrev pub decreases-loop-who : goal.decreases-loop-who
decreases-loop-who l = held_in (slots_of l.self)
