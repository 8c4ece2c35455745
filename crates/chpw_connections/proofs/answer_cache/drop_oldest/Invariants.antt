use Rattle.std.proofs.Common.{◌≡◌, length}
use Rattle.std.specs.VecDeque.{deque_capacity}
use Rattle.chpw_connections.specs.Answers.{within}
use Rattle.chpw_connections.specs.Fields.{answers_of}
use Rattle.chpw_connections.proofs.answer_cache.drop_oldest.Given as goal

abbrev pub invariant-loop-kept : goal.invariant-loop-kept
invariant-loop-kept l =
    (within 4194304 (answers_of l.initial.kept.items) ≡ within 4194304 (answers_of l.kept.items))
    × (deque_capacity l.kept ≡ deque_capacity l.initial.kept)

abbrev pub decreases-loop-kept : goal.decreases-loop-kept
decreases-loop-kept l = length l.kept.items
