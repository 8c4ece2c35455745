use Rattle.std.proofs.Common.{◌≡◌, length}
use Rattle.chpw_transfers.proofs.control.no_streams.Given as goal

abbrev pub invariant-loop : goal.invariant-loop
invariant-loop l = length l.streams.items ≡ l.counter
