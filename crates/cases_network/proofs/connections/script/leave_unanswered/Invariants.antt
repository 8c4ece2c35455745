use Rattle.std.proofs.Common.{length}
use Rattle.cases_network.proofs.connections.script.leave_unanswered.Given as goal

-- each turn takes one
abbrev pub decreases-loop-message : goal.decreases-loop-message
decreases-loop-message l = length l.taken.items
