use Rattle.std.proofs.Common.{take}
use Rattle.chpw_invocation.specs.Addresses.{IsAmong}
use Rattle.chpw_invocation.proofs.listening.ListenAddresses.has.Given as goal

abbrev pub invariant-loop-other : goal.invariant-loop-other
invariant-loop-other l = ¬ (IsAmong l.address (take l.other-index l.other-items))
