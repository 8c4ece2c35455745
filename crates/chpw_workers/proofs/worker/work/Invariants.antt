use Rattle.std.proofs.Common.{◌≡◌, ◌++◌, List}
use Rattle.chpw_workers.specs.declared.inbox.WorkerTurn.{WorkerTurn}
use Rattle.chpw_workers.specs.Turns.{at, AreTurns}
use Rattle.chpw_workers.proofs.worker.work.Given as goal

abbrev pub invariant-loop : goal.invariant-loop
invariant-loop g l =
    let service = l.fn.context.service.now in
    (goal.iterator-loop g).can_next l.iterator' × (goal.iterator-loop g).is_finite l.iterator'
    × ((turns : List WorkerTurn) × (g.I.Inbox.turns l.worker.inbox ≡ g.I.Inbox.turns l.fn.worker.inbox ++ turns)
    × AreTurns g.C.Clock.gives g.X.Words.gives (g.M.Messages.error_frame service) (g.M.Messages.private_frame service)
    (g.M.Messages.opens service) (g.K.Decider.may_be_full l.decider) (g.K.KdcDecider.holds l.decider) l.fn.context.has_kdc
    (at (g.K.Decider.gathered l.fn.decider) l.fn.worker.clock l.fn.worker.words) turns
    (at (g.K.Decider.gathered l.decider) l.worker.clock l.worker.words))
    × g.K.Decider.follows l.fn.decider l.decider
