use Rattle.std.proofs.Common.{◌∙◌, ap, deque_items}
use Rattle.std.proofs.Math.Seq.{map-set_same}
use Rattle.chpw_slots.proofs.waiting.Queues.reserve.Goals as goal

pub returns-clause-same : goal.returns-clause-same
returns-clause-same c =
    map-set_same deque_items c.args.self.now.queues.items c.args.worker c.reserve.new.self c.index_mut.result.now
    (c.reserve.ensures.items ∙ ap deque_items c.index_mut.ensures.value)
