use Rattle.std.proofs.Common.{◌≡◌}
use Rattle.chpw_decider.specs.Deciding.{IsCompletedFrom}
use Rattle.chpw_serve.proofs.deciding.decide.Given as goal

abbrev pub invariant-loop : goal.invariant-loop
invariant-loop g l = (g.D.Decider.gathered l.decider ≡ g.D.Decider.gathered l.initial.decider)
    × IsCompletedFrom l.password l.fn.opened l.opened
    × g.D.Decider.follows l.initial.decider l.decider
