use Rattle.chpw_connections.specs.Held.{slots_of, bounds_of, accepted_by}
use Rattle.chpw_connections.specs.Queues.{workers_of}
use Rattle.chpw_sockets.proofs.PlaceLemmas.{is_queued}
use Rattle.chpw_sockets.proofs.deciding.queue.Goals as goal

pub returns-in-Some-clause-queued : goal.returns-in-Some-clause-queued
returns-in-Some-clause-queued g c worker is =
    is_queued c.args.sender c.args.message.now c.in-Ok.copy.items c.args.by_slot.now c.put_datagram.new.by_slot
    (bounds_of c.args.state.now.connections) c.args.now (accepted_by c.args.state.now.connections)
    (slots_of c.args.state.now.connections) (slots_of c.take_datagram.new.self.connections)
    c.in-Some.slot c.in-Some.worker worker (workers_of c.args.state.now.connections)
    is c.in-Some.ensures.taken c.in-Ok.ensures.items c.put_datagram.ensures.placed c.put_datagram.ensures.others
