-- What is wanted of a message.
use Rattle.std.proofs.Common.{◌≡◌, ℕ, ◌+◌, ◌≤◌, List, ◌++◌, length, take, nat_lt, nat_le, refl, sym, ◌∙◌, ap, subst, Bool, true, false, ◌==◌, cond, Option}
use Rattle.std.proofs.Common.{Some, None, arith}
use Rattle.std.proofs.lemmas.List.{length-append, length-take}
use Rattle.chpw_connection.specs.Messages.{wanted_after, whole_after}
use Rattle.std.proofs.lemmas.Bool.Decides.{nat_tests}
use Rattle.chpw_connection.specs.Reading.{is_unfinished}
use Rattle.chpw_connection.specs.Stages.{reading, queued, came, after, count_after, since_after, stage, stage_of, wanted_by, IsRoomFor, IsRoomBehind, Goes}
use Rattle.chpw_connection.specs.Slot.{is_reading, is_reading_in, wanted_at}
use Rattle.chpw_connection.specs.declared.connection.Incoming.{Incoming}
use Rattle.chpw_connection.specs.declared.connection.Phase.{Phase}
use Rattle.chpw_connection.specs.declared.connection.Phase.TheVariants as phase
use Rattle.chpw_connection.specs.declared.connection.Connection.{Connection}

-- who wants no bytes reads no message
by_phase : (p : Phase) → is_unfinished p ≡ true → wanted_by (stage_of p) ≡ 0 → is_reading (stage_of p) ≡ false
by_phase (phase.Reading bytes) is none = absurd (grind (arith, nat_tests))
by_phase (phase.Queued message) is none = refl
by_phase (phase.Answering m) is none = refl
by_phase (phase.Confirming waiting) is none = refl
by_phase (phase.Writing outgoing) is none = refl
by_phase phase.Lingering is none = refl
by_phase phase.Abandoned is none = refl
by_phase phase.Ended is none = refl

pub unwanted_unread : (o : Option Connection) → wanted_at o ≡ 0 → is_reading_in o ≡ false
unwanted_unread None none = refl
unwanted_unread (Some c) none = by_phase c.phase c.unfinished none

-- more bytes of a message, which isn't whole with them
module _ (now : ℕ) (c d : Connection) (i j : Incoming) (bytes : List ℕ) (was : c.phase ≡ phase.Reading i) (is : d.phase ≡ phase.Reading j)
    (more : j.received.items ≡ i.received.items ++ take (wanted_after i.received.items) bytes)
    (part : (wanted_after j.received.items == 0) ≡ false) where
  stage_after : stage d ≡ after c.answered (stage c) (came bytes)
  stage_after =
      ap stage_of is
      ∙ subst (λ (p : Phase). reading j.received.items ≡ after c.answered (stage_of p) (came bytes)) (sym was)
      (subst (λ (l : List ℕ). reading j.received.items ≡ cond (wanted_after l == 0) (queued l) (reading l)) more
      (sym (ap (λ (t : Bool). cond t (queued j.received.items) (reading j.received.items)) part)))

  since_behind : c.since ≡ since_after now c.since (stage c) (came bytes)
  since_behind =
      subst (λ (p : Phase). c.since ≡ since_after now c.since (stage_of p) (came bytes)) (sym was)
      (subst (λ (l : List ℕ). c.since ≡ cond (wanted_after l == 0) now c.since) more
      (sym (ap (λ (t : Bool). cond t now c.since) part)))

  room_behind : j.room ≡ whole_after i.received.items → j.begun ≡ cond (j.room == i.room) i.begun now
      → IsRoomBehind now (came bytes) c.phase d.phase
  room_behind room begun =
      subst (λ (p : Phase). IsRoomBehind now (came bytes) c.phase p) (sym is)
      (subst (λ (p : Phase). IsRoomFor now (came bytes) p j) (sym was) (room, begun))

  count_behind : c.answered ≡ count_after c.answered (stage c) (came bytes)
  count_behind = subst (λ (p : Phase). c.answered ≡ count_after c.answered (stage_of p) (came bytes)) (sym was) refl

  pub goes_on_reading : j.room ≡ whole_after i.received.items → j.begun ≡ cond (j.room == i.room) i.begun now
      → d.answered ≡ c.answered → d.since ≡ c.since → d.number ≡ c.number → d.ends ≡ c.ends → d.share ≡ c.share → Goes now c d (came bytes)
  goes_on_reading room begun answered since number ends share = record {
    stage_is = stage_after;
    count_is = answered ∙ count_behind;
    since_is = since ∙ since_behind;
    room_is = room_behind room begun;
    number = number;
    ends = ends;
    share = share;
  }

-- what has come of a message that isn't whole, and what is wanted of it, is all of it
all_of_it : (b : List ℕ) → nat_lt 0 (wanted_after b) ≡ true → length b + wanted_after b ≡ whole_after b
all_of_it b is = grind (arith, nat_tests)

pub no_more_than_whole : (b more : List ℕ) → nat_lt 0 (wanted_after b) ≡ true → length (b ++ take (wanted_after b) more) ≤ whole_after b
no_more_than_whole b more is = grind (arith, length-append, length-take, all_of_it b is)

-- so it fits into room for all of it
pub covered_by : (b more new : List ℕ) (room : ℕ) → nat_lt 0 (wanted_after b) ≡ true → new ≡ b ++ take (wanted_after b) more → room ≡ whole_after b
    → nat_le (length new) room ≡ true
covered_by b more new room is new_is room_is =
    let few = no_more_than_whole b more is in
    let same : length new ≡ length (b ++ take (wanted_after b) more) = cc in
    grind (arith, nat_tests)
