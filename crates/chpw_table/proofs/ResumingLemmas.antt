-- What a table leaves to the one of a next run.
use Rattle.std.proofs.Common.{◌≡◌, ℕ, ◌+◌, ◌≤◌, add-one, nat_lt, take, Option, Some, None, List, [], ◌∷◌, ◌++◌, length}
use Rattle.std.proofs.Common.{Bool, true, false, ◌||◌, if◌then◌else◌, refl, sym, ◌∙◌, ap, subst, arith, inl, inr}
use Rattle.std.specs.Prelude.{ℤ, int_le, slice_get, ◌⊎◌}
use Rattle.std.specs.Int.{int_max}
use Rattle.std.specs.List.{list_any}
use Rattle.std.specs.List.Sorted.{IsStrictlySortedBy}
use Rattle.std.proofs.lemmas.List.{length-append, take_all}
use Rattle.std.proofs.lemmas.Bool.Decides.{nat_tests}
use Rattle.std.proofs.lemmas.Option.{get_or_from_slice_get, slice_get_within, slice_get-get_or}
use Rattle.std.proofs.Math.Seq.{take-suc}
use Rattle.chpw_table.specs.declared.times.Moment.{Moment}
use Rattle.chpw_table.specs.declared.request.Opened.{Opened}
use Rattle.chpw_table.specs.declared.request.RequestId.{RequestId}
use Rattle.chpw_table.specs.declared.verdict.Verdict.{Verdict}
use Rattle.chpw_table.specs.declared.verdict.Verdict.TheVariants.{Skew, Replay}
use Rattle.chpw_table.specs.declared.history.Event.{Event}
use Rattle.chpw_table.specs.declared.history.Event.TheVariants.{Ask, Raise, Update}
use Rattle.chpw_table.specs.declared.history.Entry.{Entry}
use Rattle.chpw_table.specs.declared.table.resuming.ResumeState.{ResumeState}
use Rattle.chpw_table.specs.Requests.{id_of, is_same_id}
use Rattle.chpw_table.specs.State.{State, is_used, keys_held}
use Rattle.chpw_table.specs.Times.{clock_at, is_far, is_later}
use Rattle.chpw_table.specs.Verdicts.{adds_id}
use Rattle.chpw_table.specs.Decision.{verdict, message_row}
use Rattle.chpw_table.specs.Step.{step}
use Rattle.chpw_table.specs.History.{outcome, step_entry, step_event}
use Rattle.chpw_table.specs.Agreement.{Agrees}
use Rattle.chpw_table.specs.Holding.{HoldsIds, id_cmp, young_ids}
use Rattle.chpw_table.specs.Entering.{held_after}
use Rattle.chpw_table.specs.Resuming.{resumed, carried_of, IsRestartOf, ResumedIsLeft, IsResumedAfter, ReplayOverResume, OlderIsSkew}
use Rattle.chpw_table.proofs.StepLemmas.{used_more, used_after_event, used_now, used_throughout}
use Rattle.chpw_table.proofs.AgreementLemmas.{still_young, used_swept}
use Rattle.chpw_table.proofs.HeldIdLemmas.{first_used, held_few, held_young, sorted_held}

-- ---- ids that are put in one by one

-- no ids
pub holds_none : (clock : ℤ) → HoldsIds clock [] []
unfolding IsStrictlySortedBy
holds_none clock = record { sorted = tt; young = refl; few = omega arith; same = λ id h. refl }

-- and one more
pub holds_more : (clock : ℤ) (ids used : List RequestId) (x : RequestId) → HoldsIds clock ids used
    → HoldsIds clock (ids ++ x ∷ []) (held_after clock used (x ∷ []))
holds_more clock ids used x h = record {
  sorted = sorted_held clock used (x ∷ []) h.sorted;
  young = held_young clock used (x ∷ []);
  few = (let n = held_few clock used (x ∷ []) (length ids) h.few in
      let m = length-append ids (x ∷ []) in omega (arith, n, m));
  same = λ id y.
      used_swept clock _ id y
      ∙ (first_used true x id used
      ∙ (used_more used x id ∙ (ap (λ b. b || is_same_id x id) (h.same id y) ∙ sym (used_more ids x id))));
}

-- ---- ids that are copied one by one

pub take_more : (xs : List RequestId) (i : ℕ) (x : RequestId) (ys : List RequestId) → slice_get xs i ≡ Some x → ys ≡ take i xs → ys ++ x ∷ [] ≡ take (i + 1) xs
take_more xs i x ys g e =
    ap (λ zs. zs ++ x ∷ []) e
    ∙ sym (ap (λ n. take n xs) (add-one i)
    ∙ (take-suc xs i x (slice_get_within xs i x g) ∙ ap (λ y. take i xs ++ y ∷ []) (get_or_from_slice_get xs i x x g)))

pub take_whole : (xs : List RequestId) (i : ℕ) (ys : List RequestId) → length xs ≤ i → ys ≡ take i xs → ys ≡ xs
take_whole xs i ys h e = e ∙ take_all i xs h

clash : (o : Option RequestId) (x : RequestId) → o ≡ None → o ≡ Some x → ⊥
clash o x e g = cc

pub none_past : (xs : List RequestId) (i : ℕ) → slice_get xs i ≡ None → length xs ≤ i
none_past [] i e = omega arith
none_past (x ∷ xs) i e = at (nat_lt i (length (x ∷ xs))) refl
  where
    at : (b : Bool) → nat_lt i (length (x ∷ xs)) ≡ b → length (x ∷ xs) ≤ i
    at true f = absurd (clash (slice_get (x ∷ xs) i) _ e (slice_get-get_or (x ∷ xs) i x (grind (arith, nat_tests))))
    at false f = grind (arith, nat_tests)

-- ---- the state that takes over what was left

pub resumed_is_left : ResumedIsLeft
resumed_is_left held left start a r = record {
  fixed = ap (λ q. record start.fixed { quiet_until = q }) (ap (λ f. f.quiet_until) a.fixed) ∙ r.fixed;
  principals = r.keys;
  clock = a.clock;
  broken = r.broken;
  count = r.count;
  ids = a.ids;
}

-- a table with what was carried over agrees with the state that takes it over
pub resumed_agrees : (c : ResumeState) (s t : State) (clock : ℤ) → t.fixed ≡ record s.fixed { quiet_until = c.quiet_until } → t.principals ≡ s.principals
    → t.clock ≡ c.clock → t.broken ≡ s.broken → t.count ≡ s.count → clock ≡ c.clock → HoldsIds clock c.ids t.used → Agrees t (resumed c s)
resumed_agrees c s t clock f p k b n e h = record {
  fixed = f;
  principals = λ name. ap (λ ps. keys_held (record s { principals = ps }) name) p;
  clock = k;
  broken = b;
  count = n;
  ids = λ id y. h.same id (ap (λ z. is_later z id.ctime) e ∙ y);
}

-- ---- a request that was judged

-- an id that can't be new any more: it is used, or too old
abbrev IsPast : State → RequestId → Type 0
IsPast s id = (is_used s id ≡ true) ⊎ (is_later s.clock id.ctime ≡ true)

still_old : (clock now ctime : ℤ) → is_later clock ctime ≡ true → is_later (int_max clock now) ctime ≡ true
still_old clock now ctime h = at (is_later (int_max clock now) ctime) refl
  where
    at : (b : Bool) → is_later (int_max clock now) ctime ≡ b → b ≡ true
    at true e = refl
    at false e = (let n = still_young clock now ctime e in cc)

old_after_event : (s : State) (now : Moment) (io : Bool) (event : Event) (ctime : ℤ)
    → is_later s.clock ctime ≡ true → is_later (step_event s now io event).clock ctime ≡ true
old_after_event s now io (Ask o v) ctime h = still_old s.clock now.seconds ctime h
old_after_event s now io (Raise count v) ctime h = still_old s.clock now.seconds ctime h
old_after_event s now io (Update u v) ctime h = still_old s.clock now.seconds ctime h

old_throughout : (s : State) (es : List Entry) (ctime : ℤ) → is_later s.clock ctime ≡ true → is_later (outcome s es).clock ctime ≡ true
old_throughout s [] ctime h = h
old_throughout s (e ∷ es) ctime h = old_throughout (step_entry s e) es ctime (old_after_event s e.now e.io_failed e.event ctime h)

past_throughout : (s : State) (es : List Entry) (id : RequestId) → IsPast s id → IsPast (outcome s es) id
past_throughout s es id (inl h) = inl (used_throughout s es id h)
past_throughout s es id (inr h) = inr (old_throughout s es id.ctime h)

-- it is far from each later clock
old_far : (s : State) (now : Moment) (o : Opened) → is_later s.clock o.ctime ≡ true → is_far (clock_at s now) o.ctime ≡ true
old_far s now o h = ap (λ b. b || is_later o.ctime (clock_at s now)) (still_old s.clock now.seconds o.ctime h)

past_verdict : (s : State) (now : Moment) (o : Opened) (io : Bool) → IsPast s (id_of o)
    → verdict s now o io ≡ (if is_far (clock_at s now) o.ctime || int_le o.ctime s.fixed.quiet_until then Skew else Replay)
past_verdict s now o io (inl h) = ap (λ b. if is_far (clock_at s now) o.ctime || int_le o.ctime s.fixed.quiet_until then Skew
    else if b then Replay else message_row s (clock_at s now) o io) h
past_verdict s now o io (inr h) = rw (old_far s now o h) refl

-- what was used at the end of a run can't be new in the next one
past_taken : (left end next start : State) (id : RequestId) → Agrees left end → Agrees next (resumed (carried_of left) start)
    → is_used end id ≡ true → IsPast next id
past_taken left end next start id a t h = at (is_later left.clock id.ctime) refl
  where
    at : (b : Bool) → is_later left.clock id.ctime ≡ b → IsPast next id
    at true e = inr (ap (λ c. is_later c id.ctime) t.clock ∙ e)
    at false e = inl (t.ids id e ∙ (a.ids id (ap (λ c. is_later c id.ctime) (sym a.clock) ∙ e) ∙ h))

pub replay_over_resume : ReplayOverResume
replay_over_resume s before used failed es next r later now o io same =
    let end : State = outcome (step s before used failed) es in
    let h : is_used end (id_of used) ≡ true =
    used_throughout (step s before used failed) es (id_of used) (used_now s (verdict s before used failed) before used failed r.adds) in
    let past : IsPast next (id_of o) = subst (IsPast next) (sym same) (past_taken r.left end next r.start (id_of used) r.agrees r.takes h) in
    past_verdict (outcome next later) now o io (past_throughout next later (id_of o) past)

pub older_is_skew : OlderIsSkew
older_is_skew c start next a later now o io h =
    let old : is_later next.clock o.ctime ≡ true = ap (λ k. is_later k o.ctime) a.clock ∙ h in
    rw (old_far (outcome next later) now o (old_throughout next later o.ctime old)) refl
