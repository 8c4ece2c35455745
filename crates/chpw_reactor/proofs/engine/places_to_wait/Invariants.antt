use Rattle.std.proofs.Common.{◌≡◌, vec_len}
use Rattle.chpw_reactor.proofs.engine.places_to_wait.Given as goal

abbrev pub invariant-loop : goal.invariant-loop
invariant-loop l = vec_len l.places ≡ l.counter
