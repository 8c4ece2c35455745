use Rattle.std.proofs.Common.{◌≡◌, slice_get}
use Rattle.chpw_connections.specs.Held.{slots_of, bounds_of}
use Rattle.chpw_sockets.specs.Deciding.{AreElsewhere}
use Rattle.chpw_sockets.specs.Places.{RemainsAt}
use Rattle.chpw_transfers.specs.Steps.{RunsTo}
use Rattle.chpw_sockets.proofs.hub.Hub.run.Given as goal

abbrev pub invariant-loop : goal.invariant-loop
invariant-loop l = record {
  bounds : bounds_of l.self.state.connections ≡ bounds_of l.fn.self.state.connections;
  runs : RunsTo (bounds_of l.fn.self.state.connections) l.now l.slot (slots_of l.fn.self.state.connections) (slots_of l.self.state.connections);
  kdc : l.self.state.kdc ≡ l.fn.self.state.kdc;
  others : AreElsewhere l.fn.self.sockets.by_slot.items l.self.sockets.by_slot.items l.slot;
  kept : RemainsAt (slice_get l.fn.self.sockets.by_slot.items l.slot) (slice_get l.self.sockets.by_slot.items l.slot);
}
