use Rattle.std.proofs.Common.{sym, ◌∙◌, None, arith}
use Rattle.chpw_slots.proofs.HeldLemmas.{held_updates}
use Rattle.chpw_slots.proofs.PeerLemmas.{shared_removed, shared_with}
use Rattle.chpw_slots.proofs.slots.Slots.take_out.Goals as goal

pub invariant_of-self-in-Some-clause-fits : goal.invariant_of-self-in-Some-clause-fits
invariant_of-self-in-Some-clause-fits c =
    omega (
      arith,
      held_updates c.args.self.now.connections c.try_remove.new.self c.args.slot None c.try_remove.ensures.updates,
      c.args.self.now.fits,
    )

pub invariant_of-self-in-Some-clause-shared : goal.invariant_of-self-in-Some-clause-shared
invariant_of-self-in-Some-clause-shared c =
    shared_removed c.args.self.now.per_peer c.args.self.now.connections c.try_remove.new.self c.args.slot
    c.try_remove.ensures.updates c.args.self.now.shared

pub returns-in-Some-clause-share : goal.returns-in-Some-clause-share
returns-in-Some-clause-share c =
    shared_with c.args.self.now.per_peer c.args.self.now.connections c.try_remove.new.self c.args.slot c.in-Some.connection
    c.try_remove.ensures.updates (sym c.try_remove.ensures.value ∙ c.in-Some.is) c.args.self.now.shared
