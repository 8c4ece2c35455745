-- Those that were ended to make room are noted.
use Rattle.std.proofs.Common.{◌≡◌, ◌≢◌, ℕ, List, [], ◌∷◌, ◌++◌, ◌+◌, refl, sym, ◌∙◌, ap, subst, arith, Bool, true, false, not, ◌&&◌, ◌==◌, nat_lt, cond, Option}
use Rattle.std.proofs.Common.{Some, None}
use Rattle.std.proofs.Math.Logic.{⊎_elim}
use Rattle.std.proofs.lemmas.Bool.{cases_eq}
use Rattle.std.proofs.lemmas.Bool.Decides.{nat_tests}
use Rattle.std.proofs.lemmas.List.{append-nil}
use Rattle.std.specs.declared.collections.VecDeque.{VecDeque}
use Rattle.std.specs.declared.alloc.Global.{Global}
use Rattle.slab.specs.Slab.{Slab, get}
use Rattle.chpw_connection.specs.Stages.{Stage, reading, queued, answering, confirming, writing, lingering, abandoned, ended, Event, came, failed, after, stage}
use Rattle.chpw_connection.specs.Stages.{received}
use Rattle.chpw_connection.specs.Messages.{wanted_after}
use Rattle.chpw_connection.specs.Holding.{held_by}
use Rattle.chpw_connection.specs.Slot.{waits, Comes, is_ended, is_ended_in, is_reading, is_reading_in, is_gone, is_gone_in, is_with_worker_in}
use Rattle.chpw_slots.specs.Slots.{Happens}
use Rattle.chpw_slots.specs.Waiting.{times}
use Rattle.chpw_connection.specs.Eviction.{is_held_back, is_among, gives_way_at}
use Rattle.chpw_slots.specs.Longest.{IsLongestBesides}
use Rattle.chpw_connections.specs.Room.{MakesRoom}
use Rattle.chpw_connections.specs.Noting.{NotesEach, slot_if, was_put_out, EachPutOut, NotesEnds}
use Rattle.chpw_connection.specs.declared.connection.Connection.{Connection}
use Rattle.chpw_connection.specs.declared.eviction.EvictionRule.{EvictionRule}
use Rattle.chpw_slots.proofs.QueueLemmas.{times_push_same, times_push_other}
use Rattle.chpw_connection.proofs.EvictionLemmas.{and_left, waits_from, ends_waiting}
use Rattle.chpw_slots.proofs.WaitLemmas.{besides_other, besides_same}
use Rattle.chpw_connections.proofs.RoomLemmas.{was_before}
use Rattle.chpw_connections.proofs.NoteLemmas.{notes_none, notes_then, notes_as}

-- who waits for its client hasn't ended and isn't gone
waits_on : (s : Stage) → waits s ≡ true → (is_ended s ≡ false) × (is_gone s ≡ false)
waits_on (reading bytes) is = (refl, refl)
waits_on (queued message) is = absurd cc
waits_on (answering m) is = absurd cc
waits_on (confirming reply last ticket) is = absurd cc
waits_on (writing left last) is = (refl, refl)
waits_on lingering is = (refl, refl)
waits_on abandoned is = absurd cc
waits_on ended is = absurd cc

gives_on : (who : EvictionRule) (o : Option Connection) → gives_way_at who o ≡ true → (is_ended_in o ≡ false) × (is_gone_in o ≡ false)
gives_on who None is = absurd cc
gives_on who (Some c) is =
    waits_on (stage c) (and_left (waits (stage c)) (nat_lt 0 (held_by c.phase) && (not (is_held_back c) && is_among who c)) is)

out_ended : (who : EvictionRule) (old new : Option Connection) → gives_way_at who old ≡ true → Comes 0 failed old new → is_ended_in new ≡ true
out_ended who None new is comes = absurd cc
out_ended who (Some c) None is comes = absurd comes
out_ended who (Some c) (Some d) is comes =
    ap is_ended (comes.stage_is ∙ ends_waiting c.answered (stage c)
    (and_left (waits (stage c)) (nat_lt 0 (held_by c.phase) && (not (is_held_back c) && is_among who c)) is))

-- a connection that stays wasn't put out
stays_in : (who : EvictionRule) (o : Option Connection) → was_put_out who o o ≡ false
stays_in who o = by_test (gives_way_at who o) refl
  where
    by_test : (t : Bool) → gives_way_at who o ≡ t → (t && is_ended_in o) ≡ false
    by_test true is = (gives_on who o is).0
    by_test false is = refl

and_false : (t : Bool) → (t && false) ≡ false
and_false true = refl
and_false false = refl

-- nobody was put out yet
pub ends_none : (who : EvictionRule) (s : Slab Connection) (slot : ℕ) (d : VecDeque ℕ Global) → NotesEnds who s s slot d d []
ends_none who s slot d = record {
  ends = [];
  each = λ k. sym (ap (λ (t : Bool). cond (not (k == slot) && t) 1 0) (stays_in who (get s k)) ∙ ap (λ (t : Bool). cond t 1 0) (and_false (not (k == slot))));
  notes = notes_none d d refl;
}

-- one more is put out
module _ (who : EvictionRule) (old mid new : Slab Connection) (slot other : ℕ) (made : MakesRoom who old mid slot)
    (is : IsLongestBesides mid (Some slot) who other) (happens : Happens 0 mid new other failed) where
  apart : other ≢ slot
  apart = λ same. absurd (let none = besides_same mid who slot other same in let found = is.1 in cc)

  gives : gives_way_at who (get mid other) ≡ true
  gives = waits_from who (get mid other) is.0 (sym (besides_other mid who slot other apart) ∙ is.1)

  before : get mid other ≡ get old other
  before = was_before who (get old other) (get mid other) (made.others other apart) gives

  -- it can fail
  pub can_fail : is_gone_in (get mid other) ≡ false
  can_fail = (gives_on who (get mid other) gives).1

  not_before : was_put_out who (get old other) (get mid other) ≡ false
  not_before = ap (λ (o : Option Connection). was_put_out who (get old other) o) before ∙ stays_in who (get old other)

  is_now : was_put_out who (get old other) (get new other) ≡ true
  is_now =
      let a : gives_way_at who (get old other) ≡ true = subst (λ (o : Option Connection). gives_way_at who o ≡ true) before gives in
      let b : is_ended_in (get new other) ≡ true = out_ended who (get mid other) (get new other) gives happens.here in
      ap (λ (t : Bool). t && is_ended_in (get new other)) a ∙ b

  not_slot : not (other == slot) ≡ true
  not_slot = grind (arith, nat_tests, apart)

  here : (ends : List ℕ) → EachPutOut who old mid slot ends
      → times other (ends ++ other ∷ []) ≡ cond (not (other == slot) && was_put_out who (get old other) (get new other)) 1 0
  here ends each =
      let a : times other ends ≡ 0 = each other ∙ ap (λ (t : Bool). cond (not (other == slot) && t) 1 0) not_before
      ∙ ap (λ (t : Bool). cond t 1 0) (and_false (not (other == slot))) in
      let b : cond (not (other == slot) && was_put_out who (get old other) (get new other)) 1 0 ≡ 1 =
      ap (λ (t : Bool). cond (t && was_put_out who (get old other) (get new other)) 1 0) not_slot ∙ ap (λ (t : Bool). cond t 1 0) is_now in
      times_push_same other ends ∙ ap (λ (n : ℕ). n + 1) a ∙ sym b

  each_next : (ends : List ℕ) → EachPutOut who old mid slot ends → EachPutOut who old new slot (ends ++ other ∷ [])
  each_next ends each k =
      ⊎_elim
      (λ (same : k ≡ other). subst (λ (j : ℕ). times j (ends ++ other ∷ []) ≡ cond (not (j == slot) && was_put_out who (get old j) (get new j)) 1 0)
      (sym same) (here ends each))
      (λ (differs : k ≢ other). times_push_other k other ends (λ e. differs (sym e)) ∙ each k
      ∙ ap (λ (o : Option Connection). cond (not (k == slot) && was_put_out who (get old k) o) 1 0) (sym (happens.others k differs)))
      (cases_eq k other)

  pub ends_next : (d e f : VecDeque ℕ Global) → NotesEnds who old mid slot d e [] → NotesEach e f (other ∷ []) → NotesEnds who old new slot d f []
  ends_next d e f ends notes = record {
    ends = ends.ends ++ other ∷ [];
    each = each_next ends.ends ends.each;
    notes = notes_as d f ((ends.ends ++ []) ++ other ∷ []) ((ends.ends ++ other ∷ []) ++ [])
        (ap (λ (l : List ℕ). l ++ other ∷ []) (append-nil ends.ends) ∙ sym (append-nil (ends.ends ++ other ∷ [])))
        (notes_then d e f (ends.ends ++ []) (other ∷ []) ends.notes notes);
  }

-- and then something happens in the slot for which room was made
pub ends_then : (who : EvictionRule) (now : ℕ) (old mid new : Slab Connection) (slot : ℕ) (event : Event) (d e f : VecDeque ℕ Global) (own : List ℕ)
    → NotesEnds who old mid slot d e [] → Happens now mid new slot event → NotesEach e f own → NotesEnds who old new slot d f own
ends_then who now old mid new slot event d e f own ends happens notes = record {
  ends = ends.ends;
  each = λ k.
      ⊎_elim
      (λ (same : k ≡ slot).
      let no : not (k == slot) ≡ false = grind (arith, nat_tests, same) in
      ends.each k ∙ ap (λ (t : Bool). cond (t && was_put_out who (get old k) (get mid k)) 1 0) no
      ∙ sym (ap (λ (t : Bool). cond (t && was_put_out who (get old k) (get new k)) 1 0) no))
      (λ (differs : k ≢ slot).
      ends.each k ∙ ap (λ (o : Option Connection). cond (not (k == slot) && was_put_out who (get old k) o) 1 0) (sym (happens.others k differs)))
      (cases_eq k slot);
  notes = notes_as d f ((ends.ends ++ []) ++ own) (ends.ends ++ own) (ap (λ (l : List ℕ). l ++ own) (append-nil ends.ends))
      (notes_then d e f (ends.ends ++ []) own ends.notes notes);
}

-- a connection that reads ends where it fails, and can fail; bytes don't end it
pub reading_fails : (o n : Option Connection) → is_reading_in o ≡ true → Comes 0 failed o n → is_ended_in n ≡ true
reading_fails None n is comes = absurd cc
reading_fails (Some c) None is comes = absurd comes
reading_fails (Some c) (Some d) is comes = by_stage (stage c) is comes.stage_is
  where
    by_stage : (s : Stage) → is_reading s ≡ true → stage d ≡ after c.answered s failed → is_ended (stage d) ≡ true
    by_stage (reading bytes) t e = ap is_ended e
    by_stage (queued message) t e = absurd cc
    by_stage (answering m) t e = absurd cc
    by_stage (confirming reply last ticket) t e = absurd cc
    by_stage (writing left last) t e = absurd cc
    by_stage lingering t e = absurd cc
    by_stage abandoned t e = absurd cc
    by_stage ended t e = absurd cc

pub reading_goes_on : (now : ℕ) (more : List ℕ) (o n : Option Connection) → is_reading_in o ≡ true → Comes now (came more) o n → is_ended_in n ≡ false
reading_goes_on now more None n is comes = absurd cc
reading_goes_on now more (Some c) None is comes = absurd comes
reading_goes_on now more (Some c) (Some d) is comes = by_stage (stage c) is comes.stage_is
  where
    by_test : (bytes : List ℕ) (t : Bool) → is_ended (cond t (queued bytes) (reading bytes)) ≡ false
    by_test bytes true = refl
    by_test bytes false = refl

    by_stage : (s : Stage) → is_reading s ≡ true → stage d ≡ after c.answered s (came more) → is_ended (stage d) ≡ false
    by_stage (reading bytes) t e = ap is_ended e ∙ by_test (bytes ++ received bytes more) (wanted_after (bytes ++ received bytes more) == 0)
    by_stage (queued message) t e = absurd cc
    by_stage (answering m) t e = absurd cc
    by_stage (confirming reply last ticket) t e = absurd cc
    by_stage (writing left last) t e = absurd cc
    by_stage lingering t e = absurd cc
    by_stage abandoned t e = absurd cc
    by_stage ended t e = absurd cc

pub reading_can_fail : (o : Option Connection) → is_reading_in o ≡ true → is_gone_in o ≡ false
reading_can_fail None is = absurd cc
reading_can_fail (Some c) is = by_stage (stage c) is
  where
    by_stage : (s : Stage) → is_reading s ≡ true → is_gone s ≡ false
    by_stage (reading bytes) t = refl
    by_stage (queued message) t = absurd cc
    by_stage (answering m) t = absurd cc
    by_stage (confirming reply last ticket) t = absurd cc
    by_stage (writing left last) t = absurd cc
    by_stage lingering t = absurd cc
    by_stage abandoned t = absurd cc
    by_stage ended t = absurd cc

-- a connection that reads is ended, and noted
pub ended_noted : (who : EvictionRule) (old mid new : Slab Connection) (slot : ℕ) (d e f : VecDeque ℕ Global) → is_reading_in (get old slot) ≡ true
    → MakesRoom who old mid slot → NotesEnds who old mid slot d e [] → Happens 0 mid new slot failed → NotesEach e f (slot ∷ [])
    → NotesEnds who old new slot d f (slot_if (is_reading_in (get old slot) && is_ended_in (get new slot)) slot)
ended_noted who old mid new slot d e f is made ends happens notes =
    let over : is_ended_in (get new slot) ≡ true =
    reading_fails (get old slot) (get new slot) is (subst (λ (o : Option Connection). Comes 0 failed o (get new slot)) made.here happens.here) in
    let own : slot_if (is_reading_in (get old slot) && is_ended_in (get new slot)) slot ≡ slot ∷ [] =
    ap (λ (t : Bool). slot_if (t && is_ended_in (get new slot)) slot) is ∙ ap (λ (t : Bool). slot_if t slot) over in
    ends_then who 0 old mid new slot failed d e f (slot_if (is_reading_in (get old slot) && is_ended_in (get new slot)) slot) ends happens
    (notes_as e f (slot ∷ []) (slot_if (is_reading_in (get old slot) && is_ended_in (get new slot)) slot) (sym own) notes)

-- the same, where it is noted since it can fail
pub failed_noted : (who : EvictionRule) (old mid new : Slab Connection) (slot : ℕ) (d e f : VecDeque ℕ Global) → is_reading_in (get old slot) ≡ true
    → MakesRoom who old mid slot → NotesEnds who old mid slot d e [] → Happens 0 mid new slot failed
    → NotesEach e f (slot_if (not (is_gone_in (get mid slot))) slot)
    → NotesEnds who old new slot d f (slot_if (is_reading_in (get old slot) && is_ended_in (get new slot)) slot)
failed_noted who old mid new slot d e f is made ends happens notes =
    let can : is_gone_in (get mid slot) ≡ false = ap is_gone_in made.here ∙ reading_can_fail (get old slot) is in
    ended_noted who old mid new slot d e f is made ends happens
    (notes_as e f (slot_if (not (is_gone_in (get mid slot))) slot) (slot ∷ []) (ap (λ (t : Bool). slot_if (not t) slot) can) notes)

-- one that is read further isn't noted
pub read_noted : (who : EvictionRule) (now : ℕ) (more : List ℕ) (old mid new : Slab Connection) (slot : ℕ) (d e : VecDeque ℕ Global)
    → is_reading_in (get old slot) ≡ true → MakesRoom who old mid slot → NotesEnds who old mid slot d e [] → Happens now mid new slot (came more)
    → NotesEnds who old new slot d e (slot_if (is_reading_in (get old slot) && is_ended_in (get new slot)) slot)
read_noted who now more old mid new slot d e is made ends happens =
    let goes : is_ended_in (get new slot) ≡ false =
    reading_goes_on now more (get old slot) (get new slot) is
    (subst (λ (o : Option Connection). Comes now (came more) o (get new slot)) made.here happens.here) in
    let own : slot_if (is_reading_in (get old slot) && is_ended_in (get new slot)) slot ≡ [] =
    ap (λ (t : Bool). slot_if (t && is_ended_in (get new slot)) slot) is ∙ ap (λ (t : Bool). slot_if t slot) goes in
    ends_then who now old mid new slot (came more) d e e (slot_if (is_reading_in (get old slot) && is_ended_in (get new slot)) slot) ends happens
    (notes_as e e [] (slot_if (is_reading_in (get old slot) && is_ended_in (get new slot)) slot) (sym own) (notes_none e e refl))

-- nothing happens where nothing is read
pub unread_noted : (who : EvictionRule) (s : Slab Connection) (slot : ℕ) (d : VecDeque ℕ Global) → is_reading_in (get s slot) ≡ false
    → NotesEnds who s s slot d d (slot_if (is_reading_in (get s slot) && is_ended_in (get s slot)) slot)
unread_noted who s slot d is =
    let own : slot_if (is_reading_in (get s slot) && is_ended_in (get s slot)) slot ≡ [] =
    ap (λ (t : Bool). slot_if (t && is_ended_in (get s slot)) slot) is in
    subst (λ (l : List ℕ). NotesEnds who s s slot d d l) (sym own) (ends_none who s slot d)

-- a reply that is sent notes no slot but those that were ended for it
pub sent_noted : (who : EvictionRule) (now : ℕ) (old mid new : Slab Connection) (slot : ℕ) (event : Event) (d e : VecDeque ℕ Global) (t w : Bool)
    → t ≡ true → NotesEnds who old mid slot d e [] → Happens now mid new slot event → NotesEnds who old new slot d e (slot_if (not t && w) slot)
sent_noted who now old mid new slot event d e t w is ends happens =
    let own : slot_if (not t && w) slot ≡ [] = ap (λ (u : Bool). slot_if (not u && w) slot) is in
    ends_then who now old mid new slot event d e e (slot_if (not t && w) slot) ends happens
    (notes_as e e [] (slot_if (not t && w) slot) (sym own) (notes_none e e refl))

-- one that isn't notes its slot, if a worker had the message
pub unsent_noted : (who : EvictionRule) (now : ℕ) (old mid new : Slab Connection) (slot : ℕ) (event : Event) (d e f : VecDeque ℕ Global) (t : Bool)
    → t ≡ false → mid ≡ old → NotesEnds who old mid slot d e [] → Happens now mid new slot event
    → NotesEach e f (slot_if (is_with_worker_in (get mid slot)) slot)
    → NotesEnds who old new slot d f (slot_if (not t && is_with_worker_in (get old slot)) slot)
unsent_noted who now old mid new slot event d e f t is same ends happens notes =
    let own : slot_if (is_with_worker_in (get mid slot)) slot ≡ slot_if (not t && is_with_worker_in (get old slot)) slot =
    ap (λ (s : Slab Connection). slot_if (is_with_worker_in (get s slot)) slot) same
    ∙ sym (ap (λ (u : Bool). slot_if (not u && is_with_worker_in (get old slot)) slot) is) in
    ends_then who now old mid new slot event d e f (slot_if (not t && is_with_worker_in (get old slot)) slot) ends happens
    (notes_as e f (slot_if (is_with_worker_in (get mid slot)) slot) (slot_if (not t && is_with_worker_in (get old slot)) slot) own notes)
