use Rattle.std.proofs.Common.{ℕ, ◌≡◌, ◌∙◌, sym, ap, subst, length, List, Some, inr}
use Rattle.slab.specs.Slab.{get}
use Rattle.chpw_connections.specs.Held.{slots_of, bounds_of, accepted_by}
use Rattle.chpw_connections.specs.Queues.{workers_of}
use Rattle.chpw_slots.specs.Waiting.{waits_for}
use Rattle.chpw_transfers.specs.Datagrams.{CameOrFailed}
use Rattle.chpw_transfers.proofs.DatagramLemmas.{takes, drops, begins}
use Rattle.chpw_transfers.specs.declared.state.State.{State}
use Rattle.chpw_transfers.proofs.state.State.take_datagram.Goals as goal

pub returns-in-Some-clause-taken : goal.returns-in-Some-clause-taken
returns-in-Some-clause-taken c =
    takes (bounds_of c.args.self.now.connections) (bounds_of c.accept.new.self) (bounds_of c.length_came.new.self.connections)
    c.args.now (accepted_by c.args.self.now.connections) c.in_ok-slot.slot c.in-Some.worker
    (workers_of c.args.self.now.connections) c.args.ends c.args.message.now
    (slots_of c.args.self.now.connections) (slots_of c.accept.new.self)
    (slots_of c.length_came.new.self.connections) (slots_of c.message_came.new.self.connections)
    c.in_ok-length.ensures.fits
    (sym c.in_ok-slot.ensures.bounds ∙ sym c.length_came.ensures.bounds)
    c.length_came.ensures.bounds
    c.in_ok-slot.ensures.accepted
    (subst (λ (l : List ℕ). CameOrFailed (bounds_of c.accept.new.self) c.args.now (slots_of c.accept.new.self)
    (slots_of c.length_came.new.self.connections) c.in_ok-slot.slot l)
    c.in_ok-length.ensures.value c.length_came.ensures.happens)
    c.in-Some.ensures.wanted
    c.in-Some.ensures.queued
    (subst (λ (n : ℕ). waits_for n (get (slots_of c.message_came.new.self.connections) c.in_ok-slot.slot) ≡ Some c.in-Some.worker)
    (c.length_came.ensures.workers ∙ ap length c.in_ok-slot.ensures.queues) c.in-Some.ensures.waits)
    c.length_came.ensures.needed
    c.in-Some.ensures.needed

pub returns-in-None-clause-dropped : goal.returns-in-None-clause-dropped
returns-in-None-clause-dropped c =
    drops (bounds_of c.accept.new.self) (bounds_of c.length_came.new.self.connections) c.args.now
    (accepted_by c.args.self.now.connections) c.in_ok-slot.slot c.args.ends
    c.in_ok-length.length
    c.args.message.now (slots_of c.args.self.now.connections) (slots_of c.accept.new.self) (slots_of c.length_came.new.self.connections)
    (slots_of c.message_came.new.self.connections) (slots_of c.fail.new.self) (slots_of c.remove.new.self)
    c.in_ok-slot.ensures.accepted
    c.length_came.ensures.happens
    c.in-None.ensures.none
    c.fail.ensures.happens
    (λ is. c.remove.ensures.freed (c.remove.ensures.value ∙ is))

pub returns-in-None-clause-in_turn : goal.returns-in-None-clause-in_turn
returns-in-None-clause-in_turn c =
    inr (begins (bounds_of c.accept.new.self) (bounds_of c.length_came.new.self.connections) c.args.now
    (accepted_by c.args.self.now.connections) c.in_ok-slot.slot c.args.ends
    c.in_ok-length.length
    c.args.message.now (slots_of c.args.self.now.connections) (slots_of c.accept.new.self) (slots_of c.length_came.new.self.connections)
    (slots_of c.message_came.new.self.connections) (slots_of c.fail.new.self) (slots_of c.remove.new.self)
    c.in_ok-slot.ensures.accepted
    c.length_came.ensures.happens
    c.in-None.ensures.none
    c.fail.ensures.happens
    (λ is. c.remove.ensures.freed (c.remove.ensures.value ∙ is))
    (bounds_of c.args.self.now.connections)
    c.in_ok-slot.ensures.bounds
    (c.length_came.ensures.bounds ∙ c.in_ok-slot.ensures.bounds)
    c.length_came.ensures.full
    (λ is. ap (λ (s : State). slots_of s.connections) (c.in-None.ensures.full is).1)
    c.length_came.ensures.needed
    c.in-None.ensures.needed
    c.in_ok-length.ensures.value)
