use Rattle.std.proofs.Common.{◌≡◌, length}
use Rattle.chpw_sockets.specs.Shares.{datagrams_in, streams_in}
use Rattle.chpw_sockets.proofs.sockets.no_sockets.Given as goal

abbrev pub invariant-loop : goal.invariant-loop
invariant-loop g l = record {
  count : length l.sockets.items ≡ l.counter;
  datagrams : datagrams_in l.sockets.items ≡ 0;
  streams : streams_in l.sockets.items ≡ 0;
}
