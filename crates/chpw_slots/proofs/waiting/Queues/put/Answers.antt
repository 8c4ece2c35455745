use Rattle.std.proofs.Common.{◌∷◌, ◌++◌, [], List, ℕ, deque_items}
use Rattle.chpw_slots.proofs.QueueLemmas.{becomes_by}
use Rattle.chpw_slots.proofs.waiting.Queues.put.Goals as goal

pub returns : goal.returns
returns c = record {
  becomes = becomes_by deque_items c.args.self.now.queues.items c.args.worker c.index_mut.result.now c.push_back_reserved.new.self
      (λ (q : List ℕ). q ++ c.args.slot ∷ []) c.requires.within c.index_mut.ensures.value c.push_back_reserved.ensures.items;
}
