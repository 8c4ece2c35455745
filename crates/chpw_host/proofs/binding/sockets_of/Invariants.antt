use Rattle.std.proofs.Common.{◌≡◌, length}
use Rattle.chpw_host.proofs.binding.sockets_of.Given as goal

abbrev pub invariant-loop-address : goal.invariant-loop-address
invariant-loop-address g l = length l.sockets.items ≡ l.address-index
