use Rattle.std.proofs.Common.{arith}
use Rattle.chpw_slots.proofs.GivenLemmas.{given_here_le, given_in_le}
use Rattle.chpw_slots.proofs.slots.Slots.staying_besides.Goals as goal

pub overflow_add-result : goal.overflow_add-result
overflow_add-result c =
    omega (
      arith,
      c.left_by_all.ensures.value,
      c.left_by_all.ensures.fits,
      c.bytes_freed.ensures.value,
      given_here_le c.args.who c.args.self.now.connections c.args.slot,
    )

pub returns : goal.returns
returns c =
    omega (
      arith,
      c.left_by_all.ensures.value,
      c.args.self.now.held_is,
      c.bytes_freed.ensures.value,
      given_here_le c.args.who c.args.self.now.connections c.args.slot,
      given_in_le c.args.who c.args.self.now.connections,
    )
