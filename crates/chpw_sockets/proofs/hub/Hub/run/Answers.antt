use Rattle.std.proofs.Common.{refl, rules, ◌∙◌, slice_get}
use Rattle.slab.specs.Slab.{get}
use Rattle.chpw_connections.specs.Held.{slots_of, bounds_of}
use Rattle.chpw_connection.specs.Todos.{todo_in}
use Rattle.chpw_transfers.specs.Steps.{stays}
use Rattle.chpw_sockets.proofs.RunLemmas.{remains, remains_on, runs_on}
use Rattle.chpw_sockets.proofs.hub.Hub.run.Goals as goal

pub loop-init : goal.loop-init
loop-init c = record {
  bounds = refl;
  runs = stays;
  kdc = refl;
  others = λ other differs. refl;
  kept = remains (slice_get c.args.self.now.sockets.by_slot.items c.args.slot);
}

pub returns-in-Queued : goal.returns-in-Queued
returns-in-Queued c = record {
  runs = runs_on (bounds_of c.args.self.now.state.connections) (bounds_of c.loop.self.state.connections) c.args.now c.args.slot
      (slots_of c.args.self.now.state.connections) (slots_of c.loop.self.state.connections) (slots_of c.step.new.self.state.connections)
      c.loop.invariant.bounds c.loop.invariant.runs c.step.ensures.steps;
  kdc = c.step.ensures.kdc ∙ c.loop.invariant.kdc;
  others = λ other differs. c.step.ensures.others other differs ∙ c.loop.invariant.others other differs;
  kept = remains_on (todo_in (get (slots_of c.loop.self.state.connections) c.args.slot))
      (slice_get c.args.self.now.sockets.by_slot.items c.args.slot) (slice_get c.loop.self.sockets.by_slot.items c.args.slot)
      (slice_get c.step.new.self.sockets.by_slot.items c.args.slot) c.loop.invariant.kept (c.step.ensures.kept (search rules));
}

pub loop-preserved : goal.loop-preserved
loop-preserved c = record {
  bounds = c.step.ensures.bounds ∙ c.loop.invariant.bounds;
  runs = runs_on (bounds_of c.args.self.now.state.connections) (bounds_of c.loop.self.state.connections) c.args.now c.args.slot
      (slots_of c.args.self.now.state.connections) (slots_of c.loop.self.state.connections) (slots_of c.step.new.self.state.connections)
      c.loop.invariant.bounds c.loop.invariant.runs c.step.ensures.steps;
  kdc = c.step.ensures.kdc ∙ c.loop.invariant.kdc;
  others = λ other differs. c.step.ensures.others other differs ∙ c.loop.invariant.others other differs;
  kept = remains_on (todo_in (get (slots_of c.loop.self.state.connections) c.args.slot))
      (slice_get c.args.self.now.sockets.by_slot.items c.args.slot) (slice_get c.loop.self.sockets.by_slot.items c.args.slot)
      (slice_get c.step.new.self.sockets.by_slot.items c.args.slot) c.loop.invariant.kept (c.step.ensures.kept (search rules));
}
