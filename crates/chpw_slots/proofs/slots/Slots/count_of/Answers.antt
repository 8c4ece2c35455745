use Rattle.std.proofs.Common.{◌≤◌, ◌∙◌, length, arith}
use Rattle.chpw_slots.proofs.PeerLemmas.{count_all}
use Rattle.chpw_slots.proofs.slots.Slots.count_of.Goals as goal

pub returns-clause-value : goal.returns-clause-value
returns-clause-value c =
    let slots = c.args.self.now.connections in
    let few : length slots.slots ≤ c.loop-slot.slot = omega (arith, c.capacity-slot-end.ensures.slots, c.loop-slot-test.false) in
    c.loop-slot.invariant.0 ∙ count_all c.args.peer slots c.loop-slot.slot few

pub returns-clause-few : goal.returns-clause-few
returns-clause-few c =
    let slots = c.args.self.now.connections in
    let few : length slots.slots ≤ c.loop-slot.slot = omega (arith, c.capacity-slot-end.ensures.slots, c.loop-slot-test.false) in
    omega (arith, c.loop-slot.invariant, count_all c.args.peer slots c.loop-slot.slot few, c.args.self.now.shared c.args.peer)
