use Rattle.std.proofs.Common.{◌≡◌, ◌≤◌, take}
use Rattle.chpw_sockets.specs.Shares.{streams_in}
use Rattle.chpw_sockets.proofs.shares.streams_in.Given as goal

abbrev pub invariant-loop-slot : goal.invariant-loop-slot
invariant-loop-slot g l = record {
  value : l.count ≡ streams_in (take l.slot l.places);
  few : l.count ≤ l.slot;
}
