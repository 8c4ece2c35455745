use Rattle.std.proofs.Common.{◌≡◌, ℕ, length, refl, sym, ◌∙◌, ap, subst, arith, inl, false, ◌&&◌}
use Rattle.slab.specs.Slab.{get}
use Rattle.chpw_connection.specs.Stages.{deferred, unanswered}
use Rattle.chpw_slots.specs.Waiting.{lists_of}
use Rattle.chpw_slots.proofs.HoldsLemmas.{holds_quiet}
use Rattle.chpw_connections.proofs.RoomLemmas.{happens_with_room}
use Rattle.chpw_connections.specs.Held.{slots_of, bounds_of}
use Rattle.chpw_connections.specs.Room.{IsNeeded, for_reply}
use Rattle.chpw_slots.specs.Longest.{has_room_besides}
use Rattle.chpw_connection.specs.Slot.{is_answering_in}
use Rattle.chpw_connections.specs.Noting.{noted_by}
use Rattle.chpw_connections.proofs.NeedLemmas.{needed_still}
use Rattle.chpw_connections.proofs.EndsLemmas.{unsent_noted}
use Rattle.chpw_connections.proofs.set.Connections.defer.Goals as goal

pub invariant_of-self-clause-waiting : goal.invariant_of-self-clause-waiting
invariant_of-self-clause-waiting c =
    let old = c.find_room_to_reply.new.self in
    holds_quiet (lists_of old.queues) c.args.now old.slots.connections c.change.new.self.connections c.args.taken.slot
    (deferred c.args.reply.items c.args.is_last c.args.ticket) refl c.change.ensures.happens old.waiting

pub returns-then-find_room_to_reply-clause-happens : goal.returns-then-find_room_to_reply-clause-happens
returns-then-find_room_to_reply-clause-happens c =
    inl (happens_with_room (for_reply c.args.now) c.args.now (slots_of c.args.self.now) (slots_of c.find_room_to_reply.new.self)
    c.change.new.self.connections c.args.taken.slot (deferred c.args.reply.items c.args.is_last c.args.ticket)
    c.find_room_to_reply.ensures.makes_room c.change.ensures.happens)

pub returns-then-find_room_to_reply-clause-sent : goal.returns-then-find_room_to_reply-clause-sent
returns-then-find_room_to_reply-clause-sent c room wanted =
    happens_with_room (for_reply c.args.now) c.args.now (slots_of c.args.self.now) (slots_of c.find_room_to_reply.new.self)
    c.change.new.self.connections c.args.taken.slot (deferred c.args.reply.items c.args.is_last c.args.ticket)
    c.find_room_to_reply.ensures.makes_room c.change.ensures.happens

pub returns-then-find_room_to_reply-clause-needed : goal.returns-then-find_room_to_reply-clause-needed
returns-then-find_room_to_reply-clause-needed c =
    let long : c.len.result ≡ length c.args.reply.items = omega (arith, c.len.ensures, c.args.reply.ok.0) in
    needed_still (bounds_of c.args.self.now).bytes (length c.args.reply.items) c.args.now (for_reply c.args.now) (slots_of c.args.self.now)
    (slots_of c.find_room_to_reply.new.self) c.change.new.self.connections c.args.taken.slot (deferred c.args.reply.items c.args.is_last c.args.ticket)
    (subst (λ (n : ℕ). IsNeeded (bounds_of c.args.self.now).bytes n (for_reply c.args.now) (slots_of c.args.self.now)
    (slots_of c.find_room_to_reply.new.self) c.args.taken.slot) long c.find_room_to_reply.ensures.needed) c.change.ensures.happens

pub returns-else-find_room_to_reply-clause-notes : goal.returns-else-find_room_to_reply-clause-notes
returns-else-find_room_to_reply-clause-notes c =
    let old = slots_of c.args.self.now in
    let long : c.len.result ≡ length c.args.reply.items = omega (arith, c.len.ensures, c.args.reply.ok.0) in
    let sent = is_answering_in (get old c.args.taken.slot)
    && has_room_besides (bounds_of c.args.self.now).bytes (for_reply c.args.now) old c.args.taken.slot (length c.args.reply.items) in
    let unsent : sent ≡ false =
    sym (ap (λ (n : ℕ). is_answering_in (get old c.args.taken.slot)
    && has_room_besides (bounds_of c.args.self.now).bytes (for_reply c.args.now) old c.args.taken.slot n) long)
    ∙ sym c.find_room_to_reply.ensures.value ∙ c.if-find_room_to_reply.false in
    unsent_noted (for_reply c.args.now) c.args.now old (slots_of c.find_room_to_reply.new.self) (slots_of c.end_unanswered.new.self) c.args.taken.slot
    unanswered (noted_by c.args.self.now) (noted_by c.find_room_to_reply.new.self) (noted_by c.end_unanswered.new.self) sent unsent
    (c.find_room_to_reply.ensures.none c.if-find_room_to_reply.false) c.find_room_to_reply.ensures.notes c.end_unanswered.ensures.happens
    c.end_unanswered.ensures.notes
