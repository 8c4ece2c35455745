use Rattle.std.proofs.Common.{List, ℕ, drop, deque_items}
use Rattle.chpw_slots.proofs.QueueLemmas.{becomes_by}
use Rattle.chpw_slots.proofs.waiting.Queues.drop_first.Goals as goal

pub returns : goal.returns
returns c = record {
  becomes = becomes_by deque_items c.args.self.now.queues.items c.args.worker c.index_mut.result.now c.pop_front.new.self
      (λ (q : List ℕ). drop 1 q) c.requires.within c.index_mut.ensures.value c.pop_front.ensures.rest;
}
