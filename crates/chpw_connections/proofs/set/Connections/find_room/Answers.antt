use Rattle.chpw_connections.specs.Held.{slots_of}
use Rattle.chpw_connections.specs.Noting.{noted_by}
use Rattle.chpw_connections.proofs.EndsLemmas.{ends_none}
use Rattle.chpw_connections.proofs.set.Connections.find_room.Goals as goal

pub returns-then-has_room_for-clause-notes : goal.returns-then-has_room_for-clause-notes
returns-then-has_room_for-clause-notes c = ends_none c.args.who (slots_of c.args.self.now) c.args.slot (noted_by c.args.self.now)

pub returns-then-not-could_make_room-clause-notes : goal.returns-then-not-could_make_room-clause-notes
returns-then-not-could_make_room-clause-notes c = ends_none c.args.who (slots_of c.args.self.now) c.args.slot (noted_by c.args.self.now)
