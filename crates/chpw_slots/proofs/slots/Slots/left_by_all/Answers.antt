use Rattle.std.proofs.Common.{◌+◌, ◌≤◌, arith, length}
use Rattle.chpw_slots.proofs.GivenLemmas.{given_next, given_below_le, given_all, given_in_le}
use Rattle.chpw_slots.proofs.slots.Slots.left_by_all.Goals as goal

pub overflow_sub-left : goal.overflow_sub-left
overflow_sub-left c =
    let slots = c.args.self.now.connections in
    omega (
      arith,
      c.loop-slot.invariant,
      c.bytes_freed-left.ensures.value,
      c.args.self.now.held_is,
      given_next c.args.who slots c.loop-slot.slot,
      given_below_le c.args.who slots (c.loop-slot.slot + 1),
      given_in_le c.args.who slots,
    )

pub returns-clause-value : goal.returns-clause-value
returns-clause-value c =
    let slots = c.args.self.now.connections in
    let few : length slots.slots ≤ c.loop-slot.slot = omega (arith, c.capacity-slot-end.ensures.slots, c.loop-slot-test.false) in
    omega (arith, c.loop-slot.invariant, given_all c.args.who slots c.loop-slot.slot few)

pub loop-slot-preserved : goal.loop-slot-preserved
loop-slot-preserved c =
    let slots = c.args.self.now.connections in
    omega (
      arith,
      c.loop-slot.invariant,
      c.bytes_freed-left.ensures.value,
      c.args.self.now.held_is,
      given_next c.args.who slots c.loop-slot.slot,
      given_below_le c.args.who slots (c.loop-slot.slot + 1),
      given_in_le c.args.who slots,
    )
