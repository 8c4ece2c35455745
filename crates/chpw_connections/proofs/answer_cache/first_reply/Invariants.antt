use Rattle.std.proofs.Common.{◌≡◌, length}
use Rattle.chpw_connections.specs.Answers.{reply_for}
use Rattle.chpw_connections.specs.Fields.{answers_of}
use Rattle.chpw_connections.proofs.answer_cache.first_reply.Given as goal

abbrev pub invariant-loop-others : goal.invariant-loop-others
invariant-loop-others l =
    reply_for (answers_of l.kept) l.sender l.message l.now ≡ reply_for (answers_of l.others) l.sender l.message l.now

abbrev pub decreases-loop-others : goal.decreases-loop-others
decreases-loop-others l = length l.others
