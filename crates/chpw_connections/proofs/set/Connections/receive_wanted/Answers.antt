use Rattle.std.proofs.Common.{◌≡◌, ℕ, ◌%◌, List, ◌∷◌, ◌++◌, [], length, ◌∙◌, ap, sym, subst, inl, inr}
use Rattle.chpw_slots.specs.Waiting.{lists_of, queue_in, Holds, Becomes}
use Rattle.chpw_slots.proofs.HoldsLemmas.{holds_failed_quietly, holds_came, holds_joined}
use Rattle.chpw_connections.proofs.RoomLemmas.{happens_with_room}
use Rattle.chpw_connection.specs.Stages.{came, failed}
use Rattle.chpw_connections.specs.Held.{slots_of, bounds_of}
use Rattle.chpw_slots.specs.Slots.{Happens}
use Rattle.slab.specs.Slab.{Slab, get}
use Rattle.chpw_connections.specs.Room.{for_message, read_within, is_large_in}
use Rattle.chpw_connection.specs.Holding.{growth_at}
use Rattle.chpw_connections.specs.Noting.{noted_by}
use Rattle.chpw_connections.proofs.NeedLemmas.{needed_still}
use Rattle.chpw_connections.proofs.EndsLemmas.{ended_noted, failed_noted, read_noted}
use Rattle.chpw_connection.specs.declared.connection.Connection.{Connection}
use Rattle.chpw_connections.proofs.set.Connections.receive_wanted.Goals as goal

pub invariant_of-self-in-Err-clause-waiting : goal.invariant_of-self-in-Err-clause-waiting
invariant_of-self-in-Err-clause-waiting c =
    let old = c.find_room_to_read.new.self in
    subst (λ (q : List (List ℕ)). Holds q c.receive.new.self.connections) (sym c.reserve.ensures.same)
    (holds_failed_quietly (lists_of old.queues) 0 old.slots.connections c.receive.new.self.connections c.args.slot
    c.in-Err.ensures.reading c.in-Err.ensures.ended old.waiting)

pub invariant_of-self-in-Ok-false-clause-waiting : goal.invariant_of-self-in-Ok-false-clause-waiting
invariant_of-self-in-Ok-false-clause-waiting c =
    let old = c.find_room_to_read.new.self in
    subst (λ (q : List (List ℕ)). Holds q c.receive.new.self.connections) (sym c.reserve.ensures.same)
    (holds_came (lists_of old.queues) c.args.now old.slots.connections c.receive.new.self.connections c.args.slot c.args.bytes.now
    c.in-Ok-false.ensures.happens (sym c.in-Ok-false.ensures.whole ∙ c.in-Ok-false.field-0-test) old.waiting)

pub invariant_of-self-in-Ok-true-clause-waiting : goal.invariant_of-self-in-Ok-true-clause-waiting
invariant_of-self-in-Ok-true-clause-waiting c =
    let old = c.find_room_to_read.new.self in
    let queues = lists_of c.reserve.new.self in
    let joined = lists_of c.put.new.self in
    let n = c.in_ok-number.number in
    let waiting : Holds queues old.slots.connections =
    subst (λ (q : List (List ℕ)). Holds q old.slots.connections) (sym c.reserve.ensures.same) old.waiting in
    let is : c.worker_of-worker.result ≡ n % length queues =
    c.worker_of-worker.ensures.value ∙ ap (λ (q : List (List ℕ)). n % length q) (sym c.reserve.ensures.same) in
    holds_joined queues joined c.args.now n old.slots.connections c.receive.new.self.connections c.args.slot c.args.bytes.now
    (subst (λ (w : ℕ). Becomes queues joined w (queue_in queues w ++ c.args.slot ∷ [])) is c.put.ensures.becomes)
    c.in-Ok-true.ensures.happens (sym c.in_ok-number.ensures.value) (sym c.in-Ok-true.ensures.whole ∙ c.in-Ok-true.field-0-test) waiting

pub returns-then-not-reserve-clause-read : goal.returns-then-not-reserve-clause-read
returns-then-not-reserve-clause-read c =
    inr (happens_with_room (for_message (bounds_of c.args.self.now) c.args.now
    (get (slots_of c.args.self.now) c.args.slot)) 0 (slots_of c.args.self.now)
    (slots_of c.find_room_to_read.new.self) (slots_of c.fail-then-not-reserve.new.self) c.args.slot failed
    c.find_room_to_read.ensures.makes_room c.fail-then-not-reserve.ensures.happens)

pub returns-in-Err-clause-read : goal.returns-in-Err-clause-read
returns-in-Err-clause-read c =
    inr (happens_with_room
    (for_message (bounds_of c.args.self.now) c.args.now (get (slots_of c.args.self.now) c.args.slot)) 0
    (slots_of c.args.self.now) (slots_of c.find_room_to_read.new.self) (slots_of c.note.new.self) c.args.slot failed
    c.find_room_to_read.ensures.makes_room
    (subst (λ (s : Slab Connection). Happens 0 (slots_of c.find_room_to_read.new.self) s c.args.slot failed) (sym c.note.ensures.slots) c.in-Err.ensures.ended))

pub returns-in-Ok-false-clause-read : goal.returns-in-Ok-false-clause-read
returns-in-Ok-false-clause-read c =
    inl (happens_with_room (for_message (bounds_of c.args.self.now) c.args.now
    (get (slots_of c.args.self.now) c.args.slot)) c.args.now (slots_of c.args.self.now)
    (slots_of c.find_room_to_read.new.self) c.receive.new.self.connections c.args.slot
    (came c.args.bytes.now) c.find_room_to_read.ensures.makes_room c.in-Ok-false.ensures.happens)

pub returns-in-Ok-true-clause-queued : goal.returns-in-Ok-true-clause-queued
returns-in-Ok-true-clause-queued c =
    happens_with_room (for_message (bounds_of c.args.self.now) c.args.now (get (slots_of c.args.self.now) c.args.slot))
    c.args.now (slots_of c.args.self.now)
    (slots_of c.find_room_to_read.new.self) c.receive.new.self.connections c.args.slot
    (came c.args.bytes.now) c.find_room_to_read.ensures.makes_room c.in-Ok-true.ensures.happens

pub returns-then-not-find_room_to_read-clause-notes : goal.returns-then-not-find_room_to_read-clause-notes
returns-then-not-find_room_to_read-clause-notes c =
    let old = slots_of c.args.self.now in
    let mid = slots_of c.find_room_to_read.new.self in
    let who = for_message (bounds_of c.args.self.now) c.args.now (get old c.args.slot) in
    failed_noted who old mid (slots_of c.fail.new.self) c.args.slot
    (noted_by c.args.self.now) (noted_by c.find_room_to_read.new.self) (noted_by c.fail.new.self)
    c.requires.reading c.find_room_to_read.ensures.makes_room c.find_room_to_read.ensures.notes
    c.fail.ensures.happens c.fail.ensures.notes

pub returns-then-not-reserve-clause-needed : goal.returns-then-not-reserve-clause-needed
returns-then-not-reserve-clause-needed c =
    let old = slots_of c.args.self.now in
    let mid = slots_of c.find_room_to_read.new.self in
    let who = for_message (bounds_of c.args.self.now) c.args.now (get old c.args.slot) in
    needed_still (read_within (bounds_of c.args.self.now) (is_large_in (get old c.args.slot))) (growth_at (get old c.args.slot)) 0 who old mid
    (slots_of c.fail-then-not-reserve.new.self) c.args.slot failed c.find_room_to_read.ensures.needed
    c.fail-then-not-reserve.ensures.happens

pub returns-then-not-reserve-clause-notes : goal.returns-then-not-reserve-clause-notes
returns-then-not-reserve-clause-notes c =
    let old = slots_of c.args.self.now in
    let mid = slots_of c.find_room_to_read.new.self in
    let who = for_message (bounds_of c.args.self.now) c.args.now (get old c.args.slot) in
    failed_noted who old mid (slots_of c.fail-then-not-reserve.new.self) c.args.slot
    (noted_by c.args.self.now) (noted_by c.find_room_to_read.new.self) (noted_by c.fail-then-not-reserve.new.self)
    c.requires.reading c.find_room_to_read.ensures.makes_room c.find_room_to_read.ensures.notes
    c.fail-then-not-reserve.ensures.happens c.fail-then-not-reserve.ensures.notes

pub returns-in-Err-clause-needed : goal.returns-in-Err-clause-needed
returns-in-Err-clause-needed c =
    let old = slots_of c.args.self.now in
    let mid = slots_of c.find_room_to_read.new.self in
    let who = for_message (bounds_of c.args.self.now) c.args.now (get old c.args.slot) in
    needed_still (read_within (bounds_of c.args.self.now) (is_large_in (get old c.args.slot))) (growth_at (get old c.args.slot)) 0 who old mid
    (slots_of c.note.new.self) c.args.slot failed c.find_room_to_read.ensures.needed
    (subst (λ (s : Slab Connection). Happens 0 mid s c.args.slot failed) (sym c.note.ensures.slots) c.in-Err.ensures.ended)

pub returns-in-Err-clause-notes : goal.returns-in-Err-clause-notes
returns-in-Err-clause-notes c =
    let old = slots_of c.args.self.now in
    let mid = slots_of c.find_room_to_read.new.self in
    let who = for_message (bounds_of c.args.self.now) c.args.now (get old c.args.slot) in
    ended_noted who old mid (slots_of c.note.new.self) c.args.slot
    (noted_by c.args.self.now) (noted_by c.find_room_to_read.new.self) (noted_by c.note.new.self)
    c.requires.reading c.find_room_to_read.ensures.makes_room c.find_room_to_read.ensures.notes
    (subst (λ (s : Slab Connection). Happens 0 mid s c.args.slot failed) (sym c.note.ensures.slots) c.in-Err.ensures.ended) c.note.ensures.noted

pub returns-in-Ok-true-clause-needed : goal.returns-in-Ok-true-clause-needed
returns-in-Ok-true-clause-needed c =
    let old = slots_of c.args.self.now in
    let mid = slots_of c.find_room_to_read.new.self in
    let who = for_message (bounds_of c.args.self.now) c.args.now (get old c.args.slot) in
    needed_still (read_within (bounds_of c.args.self.now) (is_large_in (get old c.args.slot))) (growth_at (get old c.args.slot)) c.args.now who old mid
    c.receive.new.self.connections c.args.slot (came c.args.bytes.now) c.find_room_to_read.ensures.needed
    c.in-Ok-true.ensures.happens

pub returns-in-Ok-true-clause-notes : goal.returns-in-Ok-true-clause-notes
returns-in-Ok-true-clause-notes c =
    let old = slots_of c.args.self.now in
    let mid = slots_of c.find_room_to_read.new.self in
    let who = for_message (bounds_of c.args.self.now) c.args.now (get old c.args.slot) in
    read_noted who c.args.now c.args.bytes.now old mid c.receive.new.self.connections c.args.slot
    (noted_by c.args.self.now) (noted_by c.find_room_to_read.new.self)
    c.requires.reading c.find_room_to_read.ensures.makes_room c.find_room_to_read.ensures.notes
    c.in-Ok-true.ensures.happens

pub returns-in-Ok-false-clause-needed : goal.returns-in-Ok-false-clause-needed
returns-in-Ok-false-clause-needed c =
    let old = slots_of c.args.self.now in
    let mid = slots_of c.find_room_to_read.new.self in
    let who = for_message (bounds_of c.args.self.now) c.args.now (get old c.args.slot) in
    needed_still (read_within (bounds_of c.args.self.now) (is_large_in (get old c.args.slot))) (growth_at (get old c.args.slot)) c.args.now who old mid
    c.receive.new.self.connections c.args.slot (came c.args.bytes.now) c.find_room_to_read.ensures.needed
    c.in-Ok-false.ensures.happens

pub returns-in-Ok-false-clause-notes : goal.returns-in-Ok-false-clause-notes
returns-in-Ok-false-clause-notes c =
    let old = slots_of c.args.self.now in
    let mid = slots_of c.find_room_to_read.new.self in
    let who = for_message (bounds_of c.args.self.now) c.args.now (get old c.args.slot) in
    read_noted who c.args.now c.args.bytes.now old mid c.receive.new.self.connections c.args.slot
    (noted_by c.args.self.now) (noted_by c.find_room_to_read.new.self)
    c.requires.reading c.find_room_to_read.ensures.makes_room c.find_room_to_read.ensures.notes
    c.in-Ok-false.ensures.happens
