use Rattle.std.proofs.Common.{take}
use Rattle.chpw_invocation.specs.Addresses.{HasWildcard}
use Rattle.chpw_invocation.proofs.listening.ListenAddresses.has_wildcard.Given as goal

abbrev pub invariant-loop-address : goal.invariant-loop-address
invariant-loop-address l = ¬ (HasWildcard (take l.address-index l.address-items))
