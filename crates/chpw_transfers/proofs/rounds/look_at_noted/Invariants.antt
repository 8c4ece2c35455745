use Rattle.chpw_transfers.proofs.NotedLemmas.{LooksIf}
use Rattle.chpw_transfers.proofs.rounds.look_at_noted.Given as goal

abbrev pub invariant-loop : goal.invariant-loop
invariant-loop g l = LooksIf (g.N.Noting.noted l.fn.noting) (g.N.Noting.noted l.noting) (g.N.Noting.looked_at l.fn.noting)
    (g.N.Noting.looked_at l.noting) l.counter
