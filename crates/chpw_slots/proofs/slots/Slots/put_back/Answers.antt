use Rattle.std.proofs.Common.{arith}
use Rattle.chpw_slots.proofs.HeldLemmas.{held_adds}
use Rattle.chpw_slots.proofs.PeerLemmas.{shared_put}
use Rattle.chpw_slots.proofs.slots.Slots.put_back.Goals as goal

pub invariant_of-self-clause-fits : goal.invariant_of-self-clause-fits
invariant_of-self-clause-fits c =
    omega (
      arith,
      held_adds c.args.self.now.connections c.insert_reserved.new.self c.insert_reserved.result c.args.connection
          c.insert_reserved.ensures.was_vacant c.insert_reserved.ensures.updates,
      c.args.self.now.held_is,
      c.requires.fits,
    )

pub invariant_of-self-clause-shared : goal.invariant_of-self-clause-shared
invariant_of-self-clause-shared c =
    shared_put c.args.self.now.per_peer c.args.self.now.connections c.insert_reserved.new.self c.insert_reserved.result c.args.connection
    c.insert_reserved.ensures.updates c.insert_reserved.ensures.was_vacant c.requires.share
