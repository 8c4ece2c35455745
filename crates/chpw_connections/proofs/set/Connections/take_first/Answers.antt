use Rattle.std.proofs.Common.{drop}
use Rattle.chpw_slots.specs.Waiting.{lists_of, queue_in}
use Rattle.chpw_slots.proofs.HoldsLemmas.{front_queued, holds_taken}
use Rattle.chpw_connections.proofs.set.Connections.take_first.Goals as goal

pub invariant_of-self-clause-waiting : goal.invariant_of-self-clause-waiting
invariant_of-self-clause-waiting c =
    let old = c.args.self.now in
    holds_taken (lists_of old.queues) (lists_of c.drop_first.new.self) 0 old.slots.connections c.take-taken.new.self.connections c.args.worker
    c.args.slot c.requires.first c.drop_first.ensures.becomes c.take-taken.ensures.happens old.waiting

pub returns-in_err-message-clause-some : goal.returns-in_err-message-clause-some
returns-in_err-message-clause-some c =
    let old = c.args.self.now in
    let queues = lists_of old.queues in
    absurd (front_queued queues old.slots.connections c.args.worker c.args.slot (drop 1
    (queue_in queues c.args.worker)) c.requires.first old.waiting c.in_err-message.ensures.none)
