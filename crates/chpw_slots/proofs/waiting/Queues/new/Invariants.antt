use Rattle.std.proofs.Common.{◌≡◌, ℕ, [], vec_len, map, deque_items}
use Rattle.chpw_slots.specs.Waiting.{queue_in}
use Rattle.chpw_slots.proofs.waiting.Queues.new.Given as goal

abbrev pub invariant-loop : goal.invariant-loop
invariant-loop l = record {
  len : vec_len l.queues ≡ l.counter;
  one : l.workers ≡ 0 → l.counter ≡ 1;
  empty : (worker : ℕ) → queue_in (map deque_items l.queues.items) worker ≡ [];
}
