use Rattle.std.proofs.Common.{◌≡◌}
use Rattle.chpw_reactor.proofs.reactor.Reactor.end_overdue.Given as goal

abbrev pub invariant-loop : goal.invariant-loop
invariant-loop g l = l.self.link.stream ≡ l.fn.self.link.stream
