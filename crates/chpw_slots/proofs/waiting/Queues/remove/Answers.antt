use Rattle.std.proofs.Common.{rules, deque_items}
use Rattle.std.proofs.lemmas.Fn.{filter_same}
use Rattle.chpw_slots.specs.Waiting.{without}
use Rattle.chpw_slots.proofs.QueueLemmas.{becomes_by}
use Rattle.chpw_slots.proofs.waiting.Queues.remove.Goals as goal

pub returns : goal.returns
returns c = record {
  becomes = becomes_by deque_items c.args.self.now.queues.items c.args.worker c.index_mut.result.now c.retain.new.self
      (without c.args.slot) c.requires.within c.index_mut.ensures.value
      (filter_same _ _ _ (λ x b f' k. search rules) _ _ c.retain.ensures.filtered);
}
