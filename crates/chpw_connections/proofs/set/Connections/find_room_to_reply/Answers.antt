use Rattle.chpw_connections.specs.Held.{slots_of}
use Rattle.chpw_connections.specs.Room.{for_reply}
use Rattle.chpw_connections.specs.Noting.{noted_by}
use Rattle.chpw_connections.proofs.EndsLemmas.{ends_none}
use Rattle.chpw_connections.proofs.set.Connections.find_room_to_reply.Goals as goal

pub returns-else-is_answering-clause-notes : goal.returns-else-is_answering-clause-notes
returns-else-is_answering-clause-notes c = ends_none (for_reply c.args.now) (slots_of c.args.self.now) c.args.slot (noted_by c.args.self.now)
