-- Which slots are noted.
use Rattle.std.proofs.Common.{◌≡◌, ℕ, ◌+◌, ◌-◌, ◌<◌, ◌≤◌, List, [], ◌∷◌, ◌++◌, length, refl, sym, ◌∙◌, ap, subst, arith, Bool, true, false, cond, Option, Some}
use Rattle.std.proofs.Common.{None, inl, inr, append_assoc, length-append, add-one}
use Rattle.std.proofs.lemmas.List.{append-nil}
use Rattle.std.specs.VecDeque.{deque_items, deque_len, deque_capacity}
use Rattle.std.specs.declared.collections.VecDeque.{VecDeque}
use Rattle.std.specs.declared.alloc.Global.{Global}
use Rattle.slab.specs.Slab.{Slab, get}
use Rattle.chpw_slots.specs.Orders.{Picks}
use Rattle.chpw_connections.specs.Noting.{NotesEach, slots_below, slot_if}
use Rattle.chpw_connection.specs.Slot.{is_gone, is_gone_in}
use Rattle.chpw_connection.specs.Stages.{Stage, reading, queued, answering, confirming, writing, lingering, abandoned, ended, stage}
use Rattle.chpw_connection.specs.Late.{time_of, is_late_at, is_late_in}
use Rattle.chpw_connection.specs.declared.limits.ConnectionLimits.{ConnectionLimits}
use Rattle.chpw_connection.specs.declared.connection.Connection.{Connection}

picks_behind : (c b d : List ℕ) → Picks c d → Picks c (b ++ d)
picks_behind c [] d p = p
picks_behind [] (y ∷ b) d p = tt
picks_behind (x ∷ c) (y ∷ b) d p = inr (picks_behind (x ∷ c) b d p)

picks_both : (a b c d : List ℕ) → Picks a b → Picks c d → Picks (a ++ c) (b ++ d)
picks_both [] b c d p q = picks_behind c b d q
picks_both (x ∷ a) [] c d p q = absurd p
picks_both (x ∷ a) (y ∷ b) c d (inl both) q = inl (both.0, picks_both a b c d both.1 q)
picks_both (x ∷ a) (y ∷ b) c d (inr later) q = inr (picks_both (x ∷ a) b c d later q)

-- none
pub notes_none : (old new : VecDeque ℕ Global) → new ≡ old → NotesEach old new []
notes_none old new same = record {
  kept = [];
  few = tt;
  noted = ap deque_items same ∙ sym (append-nil (deque_items old));
  capacity = let e = ap deque_capacity same in omega arith;
  with_room = λ fits. ap deque_items same ∙ sym (append-nil (deque_items old));
}

-- one, where there is memory
pub notes_pushed : (old new : VecDeque ℕ Global) (slot : ℕ) (is : Bool) → deque_items new ≡ cond is (deque_items old ++ slot ∷ []) (deque_items old)
    → deque_capacity old ≤ deque_capacity new → (deque_len old < deque_capacity old → is ≡ true) → NotesEach old new (slot ∷ [])
notes_pushed old new slot true items more succeeds = record {
  kept = slot ∷ [];
  few = inl (refl, tt);
  noted = items;
  capacity = more;
  with_room = λ fits. items;
}
notes_pushed old new slot false items more succeeds = record {
  kept = [];
  few = tt;
  noted = items ∙ sym (append-nil (deque_items old));
  capacity = more;
  with_room = λ fits. absurd (let fails = succeeds (omega arith) in cc);
}

-- some, and then some more
pub notes_then : (old mid new : VecDeque ℕ Global) (xs ys : List ℕ) → NotesEach old mid xs → NotesEach mid new ys → NotesEach old new (xs ++ ys)
notes_then old mid new xs ys first second = record {
  kept = first.kept ++ second.kept;
  few = picks_both first.kept xs second.kept ys first.few second.few;
  noted = second.noted ∙ ap (λ (l : List ℕ). l ++ second.kept) first.noted ∙ append_assoc (deque_items old) first.kept second.kept;
  capacity = let a = first.capacity in let b = second.capacity in omega arith;
  with_room = λ fits.
      let both = length-append xs ys in
      let e : deque_items mid ≡ deque_items old ++ xs = first.with_room (omega arith) in
      let n : length (deque_items mid) ≡ length (deque_items old) + length xs = ap length e ∙ length-append (deque_items old) xs in
      let more = first.capacity in
      let f : deque_items new ≡ deque_items mid ++ ys = second.with_room (omega (arith, old.ok.0, mid.ok.0)) in
      f ∙ ap (λ (l : List ℕ). l ++ ys) e ∙ append_assoc (deque_items old) xs ys;
}

-- these, told in another way
pub notes_as : (old new : VecDeque ℕ Global) (xs ys : List ℕ) → xs ≡ ys → NotesEach old new xs → NotesEach old new ys
notes_as old new xs ys same notes = subst (λ (l : List ℕ). NotesEach old new l) same notes

-- none so far
pub notes_first : (test : Option Connection → Bool) (slots : Slab Connection) (d : VecDeque ℕ Global) → NotesEach d d (slots_below test slots 0)
notes_first test slots d = notes_none d d refl

-- one slot more
pub notes_next : (test : Option Connection → Bool) (slots : Slab Connection) (old mid new : VecDeque ℕ Global) (n : ℕ)
    → NotesEach old mid (slots_below test slots n) → NotesEach mid new (slot_if (test (get slots n)) n) → NotesEach old new (slots_below test slots (n + 1))
notes_next test slots old mid new n first second =
    let e : slots_below test slots (n + 1) ≡ slots_below test slots n ++ slot_if (test (get slots n)) n = rw (add-one n) refl in
    notes_as old new (slots_below test slots n ++ slot_if (test (get slots n)) n) (slots_below test slots (n + 1)) (sym e)
    (notes_then old mid new (slots_below test slots n) (slot_if (test (get slots n)) n) first second)

-- one that is late, under the same bounds
pub late_noted : (b b' : ConnectionLimits) (now n : ℕ) (old mid : Slab Connection) (d e : VecDeque ℕ Global) → b' ≡ b → get mid n ≡ get old n
    → NotesEach d e (slot_if (is_late_in b' now (get mid n)) n) → NotesEach d e (slot_if (is_late_in b now (get old n)) n)
late_noted b b' now n old mid d e same here notes =
    notes_as d e (slot_if (is_late_in b' now (get mid n)) n) (slot_if (is_late_in b now (get old n)) n)
    (ap (λ (l : ConnectionLimits). slot_if (is_late_in l now (get mid n)) n) same
    ∙ ap (λ (o : Option Connection). slot_if (is_late_in b now o) n) here) notes

-- one that passes a test
pub test_noted : (test : Option Connection → Bool) (n : ℕ) (old mid : Slab Connection) (d e : VecDeque ℕ Global) → get mid n ≡ get old n
    → NotesEach d e (slot_if (test (get mid n)) n) → NotesEach d e (slot_if (test (get old n)) n)
test_noted test n old mid d e here notes =
    notes_as d e (slot_if (test (get mid n)) n) (slot_if (test (get old n)) n) (ap (λ (o : Option Connection). slot_if (test o) n) here) notes

-- one whose time is up can fail
late_goes : (b : ConnectionLimits) (s : Stage) (waited : ℕ) → is_late_at (time_of b s) waited ≡ true → is_gone s ≡ false
late_goes b (reading bytes) waited is = refl
late_goes b (queued message) waited is = refl
late_goes b (answering m) waited is = absurd cc
late_goes b (confirming reply last ticket) waited is = absurd cc
late_goes b (writing left last) waited is = refl
late_goes b lingering waited is = refl
late_goes b abandoned waited is = absurd cc
late_goes b ended waited is = absurd cc

pub late_can_fail : (b : ConnectionLimits) (now : ℕ) (o : Option Connection) → is_late_in b now o ≡ true → is_gone_in o ≡ false
late_can_fail b now None is = absurd cc
late_can_fail b now (Some c) is = late_goes b (stage c) (now - c.since) is
