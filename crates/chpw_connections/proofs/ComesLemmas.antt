-- Events that come to the same.
use Rattle.std.proofs.Common.{◌≡◌, ℕ, List, take, refl, ◌∙◌, subst, arith, Option, Some, None, IfSome, IfNone, inl, inr, ◌⊎◌}
use Rattle.std.proofs.lemmas.List.{take_all, length-take}
use Rattle.slab.specs.Slab.{Slab, get}
use Rattle.chpw_connection.specs.Messages.{wanted_after}
use Rattle.chpw_connection.specs.Stages.{Stage, reading, queued, answering, confirming, writing, lingering, abandoned, ended, Event, came, failed, after}
use Rattle.chpw_connection.specs.Stages.{count_after, since_after, stage, wanted_by, IsRoomFor, IsRoomBehind, Goes}
use Rattle.chpw_connection.specs.Slot.{Comes, wanted_of}
use Rattle.chpw_connections.specs.Room.{HappensWithRoom}
use Rattle.chpw_connection.specs.declared.connection.Connection.{Connection}
use Rattle.chpw_connection.specs.declared.connection.Incoming.{Incoming}
use Rattle.chpw_connection.specs.declared.connection.Phase.{Phase}
use Rattle.chpw_connection.specs.declared.connection.Phase.TheVariants as phase
use Rattle.chpw_connection.specs.declared.eviction.EvictionRule.{EvictionRule}

-- one event does to a stage what the other does
record Same (now count since : ℕ) (s : Stage) (e f : Event) : Type 0 where
  stage_too : after count s e ≡ after count s f
  count_too : count_after count s e ≡ count_after count s f
  since_too : since_after now since s e ≡ since_after now since s f
  room_too : (old new : Phase) → IsRoomBehind now e old new → IsRoomBehind now f old new

goes_too : (now : ℕ) (c d : Connection) (e f : Event) → Same now c.answered c.since (stage c) e f → Goes now c d e → Goes now c d f
goes_too now c d e f same goes = record {
  stage_is = goes.stage_is ∙ same.stage_too;
  count_is = goes.count_is ∙ same.count_too;
  since_is = goes.since_is ∙ same.since_too;
  room_is = same.room_too c.phase d.phase goes.room_is;
  number = goes.number;
  ends = goes.ends;
  share = goes.share;
}

-- how much room there is doesn't depend on which bytes came
room_for : (now : ℕ) (a b : List ℕ) (old : Phase) (j : Incoming) → IsRoomFor now (came a) old j → IsRoomFor now (came b) old j
room_for now a b (phase.Reading i) j is = is
room_for now a b (phase.Queued message) j is = is
room_for now a b (phase.Answering m) j is = is
room_for now a b (phase.Confirming waiting) j is = is
room_for now a b (phase.Writing outgoing) j is = is
room_for now a b phase.Lingering j is = is
room_for now a b phase.Abandoned j is = is
room_for now a b phase.Ended j is = is

room_same : (now : ℕ) (a b : List ℕ) (old new : Phase) → IsRoomBehind now (came a) old new → IsRoomBehind now (came b) old new
room_same now a b old (phase.Reading j) is = room_for now a b old j is
room_same now a b old (phase.Queued message) is = is
room_same now a b old (phase.Answering m) is = is
room_same now a b old (phase.Confirming waiting) is = is
room_same now a b old (phase.Writing outgoing) is = is
room_same now a b old phase.Lingering is = is
room_same now a b old phase.Abandoned is = is
room_same now a b old phase.Ended is = is

-- bytes that aren't wanted don't count
take_again : (n : ℕ) (l : List ℕ) → take n (take n l) ≡ take n l
take_again n l = take_all n (take n l) (grind (arith, length-take))

wanted_same : (now count since : ℕ) (s : Stage) (more : List ℕ) → Same now count since s (came (take (wanted_by s) more)) (came more)
wanted_same now count since (reading b) more =
    let e = take_again (wanted_after b) more in
    record {
      stage_too = rw e refl;
      count_too = refl;
      since_too = rw e refl;
      room_too = room_same now (take (wanted_after b) more) more;
    }
wanted_same now count since (queued m) more = record { stage_too = refl; count_too = refl; since_too = refl; room_too = room_same now (take 0 more) more }
wanted_same now count since (answering m) more = record { stage_too = refl; count_too = refl; since_too = refl; room_too = room_same now (take 0 more) more }
wanted_same now count since (confirming r l m) more =
    record { stage_too = refl; count_too = refl; since_too = refl; room_too = room_same now (take 0 more) more }
wanted_same now count since (writing w l) more = record { stage_too = refl; count_too = refl; since_too = refl; room_too = room_same now (take 0 more) more }
wanted_same now count since lingering more = record { stage_too = refl; count_too = refl; since_too = refl; room_too = room_same now (take 0 more) more }
wanted_same now count since abandoned more = record { stage_too = refl; count_too = refl; since_too = refl; room_too = room_same now (take 0 more) more }
wanted_same now count since ended more = record { stage_too = refl; count_too = refl; since_too = refl; room_too = room_same now (take 0 more) more }

wanted_comes : (now : ℕ) (old new : Option Connection) (more : List ℕ) → Comes now (came (wanted_of old more)) old new → Comes now (came more) old new
wanted_comes now None new more comes = comes
wanted_comes now (Some c) None more comes = absurd comes
wanted_comes now (Some c) (Some d) more comes =
    goes_too now c d (came (take (wanted_by (stage c)) more)) (came more) (wanted_same now c.answered c.since (stage c) more) comes

pub wanted_happens : (who : EvictionRule) (now : ℕ) (old new : Slab Connection) (slot : ℕ) (more : List ℕ)
    → HappensWithRoom who now old new slot (came (wanted_of (get old slot) more)) → HappensWithRoom who now old new slot (came more)
wanted_happens who now old new slot more happens = record {
  here = wanted_comes now (get old slot) (get new slot) more happens.here;
  others = happens.others;
  order = happens.order;
}

pub read_happens : (who : EvictionRule) (now : ℕ) (old new : Slab Connection) (slot : ℕ) (more part : List ℕ) (r : Option ℕ)
    → part ≡ wanted_of (get old slot) more
    → IfNone r (HappensWithRoom who now old new slot (came part) ⊎ HappensWithRoom who 0 old new slot failed)
    → IfNone r (HappensWithRoom who now old new slot (came more) ⊎ HappensWithRoom who 0 old new slot failed)
read_happens who now old new slot more part (Some worker) same read = read
read_happens who now old new slot more part None same (inl happens) =
    inl (wanted_happens who now old new slot more (subst (λ (l : List ℕ). HappensWithRoom who now old new slot (came l)) same happens))
read_happens who now old new slot more part None same (inr fails) = inr fails

pub queued_happens : (who : EvictionRule) (now : ℕ) (old new : Slab Connection) (slot : ℕ) (more part : List ℕ) (r : Option ℕ)
    → part ≡ wanted_of (get old slot) more
    → IfSome r (λ worker. HappensWithRoom who now old new slot (came part))
    → IfSome r (λ worker. HappensWithRoom who now old new slot (came more))
queued_happens who now old new slot more part None same joins = joins
queued_happens who now old new slot more part (Some worker) same joins =
    wanted_happens who now old new slot more (subst (λ (l : List ℕ). HappensWithRoom who now old new slot (came l)) same joins)
