-- The published list goes on with the history.
use Rattle.std.proofs.Common.{◌≡◌, ℕ, ◌+◌, ◌^◌, ◌<◌, List, [], ◌∷◌, ◌++◌, ◌≤◌, length, length-append, Bool, true, false}
use Rattle.std.proofs.Common.{not, ◌&&◌, ◌||◌, Option, None, Some, refl, sym, ◌∙◌, ap, subst, arith, if◌then◌else◌, append-nil}
use Rattle.std.proofs.lemmas.List.Sums.{count_by-le-length}
use Rattle.std.specs.Prelude.{IfSome}
use mathlib.Core.List.{IsPrefix}
use Rattle.chpw_rules.specs.declared.name.Name.{Name}
use Rattle.chpw_table.specs.declared.times.Moment.{Moment}
use Rattle.chpw_table.specs.declared.request.Opened.{Opened}
use Rattle.chpw_table.specs.declared.history.Entry.{Entry}
use Rattle.chpw_table.specs.declared.verdict.Verdict.{Verdict}
use Rattle.chpw_table.specs.declared.verdict.Verdict.TheVariants.{Broken, Done}
use Rattle.chpw_table.specs.declared.change.KeyChange.{KeyChange}
use Rattle.chpw_table.specs.declared.change.AcceptedChange.{AcceptedChange}
use Rattle.chpw_table.specs.declared.change.AcceptedChange.TheVariants.{Key}
use Rattle.chpw_table.specs.declared.history.Event.{Event}
use Rattle.chpw_table.specs.declared.history.Event.TheVariants.{Ask}
use Rattle.chpw_table.specs.State.{State, new_count}
use Rattle.chpw_table.specs.Verdicts.{is_done}
use Rattle.chpw_table.specs.Step.{new_key}
use Rattle.chpw_table.specs.History.{IsLegal, is_accepted, outcome}
use Rattle.chpw_table.specs.Versions.{Shown, change_by, accepted}
use Rattle.chpw_table.specs.Agreement.{Agrees}
use Rattle.chpw_table.specs.Preparing.{IsNextRow}
use Rattle.chpw_table.proofs.DoneLemmas.{done_key_row, done_whole}
use Rattle.chpw_snapshots.specs.Known.{Known, PublishedList}
use Rattle.chpw_snapshots.specs.Histories.{AreAccepted}
use Rattle.chpw_book.proofs.ChangeLemmas.{accepted_on, changes_counted}
use Rattle.chpw_book.proofs.KeptLemmas.{kept_list}
use Rattle.chpw_book.specs.Passes.{PassView}
use Rattle.chpw_book.specs.Recorded.{RecordedView}
use Rattle.chpw_book.specs.Calls.{Adds}
use Rattle.chpw_book.specs.Publishing.{IsPublished, LeavesPending, IsRecorded, with_waiting, joined, published, told_list}
use Rattle.chpw_book.proofs.GrowsLemmas.{one_longer}

-- ---- the change that a row makes

-- it is made where the journal is whole
pub whole_at : (s : State) (now : Moment) (o : Opened) (name : Name) (row : Shown) → IsNextRow s now o name row → s.broken ≡ false
whole_at s now o name row n = done_whole s o (done_key_row s now o n.done)

-- with the count of new keys
pub change_at : (s : State) (now : Moment) (o : Opened) (name : Name) (row : Shown) (count : ℕ) → IsNextRow s now o name row → count ≡ new_count s
    → Key (record { name = name; kvno = row.kvno; count = count }) ≡ change_by s (Ask o Done)
change_at s now o name row count n c =
    let kvno : (new_key s o).kvno ≡ row.kvno = ap (λ (x : KeyChange). x.kvno) n.change in
    rw (n.target, c, ← kvno) refl

-- ---- the list

shorter : (xs ys : List AcceptedChange) → IsPrefix xs ys → length xs ≤ length ys
shorter xs ys p =
    let a = length-append xs p.0 in
    let same : length (xs ++ p.0) ≡ length ys = ap (λ (l : List AcceptedChange). length l) p.1 in
    omega (arith, a, same)

-- after an accepted event the pass was told more than it knew
told_more : (opening : State) (before : List Entry) (e : Entry) (mine more : Known)
    → IsPrefix mine.told (accepted opening before) → IsPrefix mine.seen (accepted opening before)
    → more ≡ told_list (is_accepted e.event) (accepted opening (before ++ e ∷ [])) mine → is_accepted e.event ≡ true
    → (length mine.told < length more.told) × (length mine.seen < length more.told)
told_more opening before e mine more begins saw is done =
    let c : AcceptedChange = change_by (outcome opening before) e.event in
    let all : List AcceptedChange = accepted opening before in
    let longer : accepted opening (before ++ e ∷ []) ≡ all ++ c ∷ [] =
    accepted_on opening before e ∙ ap (λ (d : Bool). all ++ (if d then c ∷ [] else [])) done in
    let told : more.told ≡ all ++ c ∷ [] =
    ap (λ (k : Known). k.told) is
    ∙ (ap (λ (d : Bool). (told_list d (accepted opening (before ++ e ∷ [])) mine).told) done ∙ longer) in
    let long : length more.told ≡ length (all ++ c ∷ []) = ap (λ (l : List AcceptedChange). length l) told in
    let one = length-append all (c ∷ []) in
    let a = shorter mine.told all begins in
    let b = shorter mine.seen all saw in
    (omega (arith, long, one, a), omega (arith, long, one, b))

published_at : (opening : State) (before : List Entry) (e : Entry) (b : State) (broken : Bool) (event : Event) (s t : PublishedList)
    → IsPublished opening before b.broken s → Agrees b (outcome opening before) → e.event ≡ event → LeavesPending b broken event s t
    → (done : Bool) → is_accepted event ≡ done → IsPublished opening (before ++ e ∷ []) broken (published done t)
published_at opening before e b broken event s t p a is h done accepts =
    let list : s.list ++ (if is_accepted event then change_by b event ∷ [] else []) ≡ accepted opening (before ++ e ∷ []) =
    ap (λ (x : Event). s.list ++ (if is_accepted x then change_by b x ∷ [] else [])) (sym is) ∙ kept_list opening b before s.list e a p.list in
    at done accepts (ap (λ (d : Bool). s.list ++ (if d then change_by b event ∷ [] else [])) (sym accepts) ∙ list)
  where
    at : (done : Bool) → is_accepted event ≡ done
        → s.list ++ (if done then change_by b event ∷ [] else []) ≡ accepted opening (before ++ e ∷ [])
        → IsPublished opening (before ++ e ∷ []) broken (published done t)
    at true y list = record {
      list = ap (λ (w : Option AcceptedChange). joined w t.list) (h.waits y) ∙ (ap (λ (xs : List AcceptedChange). xs ++ change_by b event ∷ []) h.list ∙ list);
      free = λ w. refl;
    }
    at false y list = record { list = h.list ∙ (sym (append-nil s.list) ∙ list); free = h.free y }

-- a decision and its publication keep it the history's
pub published_next : (opening : State) (workers : ℕ) (prior : List ℕ) (b later : RecordedView) (mine mid : PassView)
    (s t : PublishedList) (now : Moment) (event : Event)
    → IsPublished opening b.history b.table.state.broken s → IsRecorded opening workers prior b later mine mid s t now event
    → IsPublished opening later.history later.table.state.broken (published (is_accepted event) t)
published_next opening workers prior b later mine mid s t now event p h =
    subst (λ (es : List Entry). IsPublished opening es later.table.state.broken (published (is_accepted event) t)) (sym h.grows.history)
    (published_at opening b.history h.entry b.table.state later.table.state.broken event s t p h.linearized.0.agrees
    (ap (λ (e : Entry). e.event) h.enters.entry_is) h.pending (is_accepted event) refl)

joined_accepted : (opening : State) (es : List Entry) (waiting : Option AcceptedChange) (list : List AcceptedChange) → IsLegal opening es
    → joined waiting list ≡ accepted opening es → IfSome waiting (λ change. AreAccepted opening (list ++ change ∷ []))
joined_accepted opening es None list legal is = tt
joined_accepted opening es (Some c) list legal is = record { history = es; legal = legal; list_is = is }

-- so the list with the change that waits is what the history accepted, which has the event's entry
pub accepted_next : (opening : State) (workers : ℕ) (prior : List ℕ) (b later : RecordedView) (mine mid : PassView)
    (s t : PublishedList) (now : Moment) (event : Event)
    → IsPublished opening b.history b.table.state.broken s → IsRecorded opening workers prior b later mine mid s t now event
    → is_accepted event ≡ true → IfSome t.waiting (λ change. AreAccepted opening (t.list ++ change ∷ []))
accepted_next opening workers prior b later mine mid s t now event p h done =
    let q = published_next opening workers prior b later mine mid s t now event p h in
    joined_accepted opening later.history t.waiting t.list h.linearized.1.legal
    (subst (λ (d : Bool). (published d t).list ≡ accepted opening later.history) done q.list)

-- it has room for one more
pub list_room : (opening : State) (workers : ℕ) (prior : List ℕ) (b later : RecordedView) (mine mid : PassView)
    (s t : PublishedList) (now : Moment) (event : Event)
    → IsPublished opening b.history b.table.state.broken s → IsRecorded opening workers prior b later mine mid s t now event → length t.list + 1 < 2 ^ 31
list_room opening workers prior b later mine mid s t now event p h =
    let long : length t.list ≡ length (accepted opening b.history) = ap (λ (xs : List AcceptedChange). length xs) (h.pending.list ∙ p.list) in
    let counted = changes_counted opening b.history in
    let some = count_by-le-length (λ (e : Entry). is_accepted e.event) b.history in
    let grown : length later.history ≡ length b.history + 1 = ap (λ (es : List Entry). length es) h.grows.history ∙ one_longer b.history h.entry in
    let few = h.few in
    omega (arith, long, counted, some, grown, few)

-- all that a call does
pub adds_next : (opening : State) (workers : ℕ) (prior : List ℕ) (b later : RecordedView) (mine mid more : PassView)
    (s t u : PublishedList) (now : Moment) (event : Event)
    → IsPublished opening b.history b.table.state.broken s → IsRecorded opening workers prior b later mine mid s t now event
    → IsPublished opening later.history later.table.state.broken u
    → IsPrefix mine.place.told s.list → more ≡ record mid { place = told_list (is_accepted event) u.list mid.place } → Adds opening b later mine more now event
adds_next opening workers prior b later mine mid more s t u now event p h q begins is =
    let place : more.place ≡ told_list (is_accepted event) (accepted opening (b.history ++ h.entry ∷ [])) mine.place =
    ap (λ (c : PassView). c.place) is
    ∙ (ap (λ (xs : List AcceptedChange). told_list (is_accepted event) xs mid.place) (q.list ∙ ap (λ (es : List Entry). accepted opening es) h.grows.history)
    ∙ ap (λ (k : Known). told_list (is_accepted event) (accepted opening (b.history ++ h.entry ∷ [])) k) h.place) in
    let told : IsPrefix mine.place.told (accepted opening b.history) = subst (λ (xs : List AcceptedChange). IsPrefix mine.place.told xs) p.list begins in
    let saw : IsPrefix mine.place.seen (accepted opening b.history) = subst (λ (xs : List AcceptedChange). IsPrefix mine.place.seen xs) p.list h.saw in
    let event_is : h.entry.event ≡ event = ap (λ (e : Entry). e.event) h.enters.entry_is in
    let place_is : more.place ≡ told_list (is_accepted h.entry.event) (accepted opening (b.history ++ h.entry ∷ [])) mine.place =
    place ∙ ap (λ (x : Event). told_list (is_accepted x) (accepted opening (b.history ++ h.entry ∷ [])) mine.place) (sym event_is) in
    record {
      entry = h.entry;
      happens = record {
        enters = rw is (record { entry_is = h.enters.entry_is; receipts = h.enters.receipts; share = h.enters.share; same = h.enters.same });
        legal = subst (λ (es : List Entry). IsLegal opening es) h.grows.history h.linearized.1.legal;
        tells = record {
          begins = told;
          saw = saw;
          tells = place;
          grows = λ done. told_more opening b.history h.entry mine.place more.place told saw place_is (ap (λ (x : Event). is_accepted x) event_is ∙ done);
        };
      };
      grows = h.grows;
    }

-- ---- what waits to be published after an event

was_whole : (was io now : Bool) → now ≡ (was || io) → now ≡ false → was ≡ false
was_whole true io now ni b = absurd (let x : now ≡ true = ni in cc)
was_whole false io now ni b = refl

pending_at : (before : State) (was now io d : Bool) (event : Event) (c : AcceptedChange) (s t : PublishedList) → (was ≡ false → s.waiting ≡ None)
    → is_accepted event ≡ (d && not io) → now ≡ (was || io) → c ≡ change_by before event
    → t ≡ with_waiting d c s → LeavesPending before now event s t
pending_at before was now io true event c s t free ai ni ci ti = record {
  list = ap (λ (x : PublishedList). x.list) ti;
  waits = λ h. ap (λ (x : PublishedList). x.waiting) ti ∙ ap Some ci;
  free = λ h b. absurd (at was io ni ai h b);
}
  where
    at : (was io : Bool) → now ≡ (was || io) → is_accepted event ≡ (true && not io) → is_accepted event ≡ false → now ≡ false → ⊥
    at true io ni ai h b = let x : now ≡ true = ni in cc
    at false true ni ai h b = let x : now ≡ true = ni in cc
    at false false ni ai h b = let x : is_accepted event ≡ true = ai in cc
pending_at before was now io false event c s t free ai ni ci ti = record {
  list = ap (λ (x : PublishedList). x.list) ti;
  waits = λ h. absurd (let x : is_accepted event ≡ false = ai in cc);
  free = λ h b. ap (λ (x : PublishedList). x.waiting) ti ∙ free (was_whole was io now ni b);
}

-- An event was to be accepted unless its append failed, and its change was prepared if so: it is prepared then, and
-- otherwise none is.
pub pending_next : (before : State) (was now io d : Bool) (event : Event) (c : AcceptedChange) (s t : PublishedList) → (was ≡ false → s.waiting ≡ None)
    → is_accepted event ≡ (d && not io) → now ≡ (was || io) → c ≡ change_by before event
    → t ≡ with_waiting d c s → LeavesPending before now event s t
pending_next before was now io d event c s t free ai ni ci ti = pending_at before was now io d event c s t free ai ni ci ti

-- a decision is accepted so
pub written_done : (row v : Verdict) (io : Bool) → v ≡ (if is_done row && io then Broken else row) → is_done v ≡ (is_done row && not io)
written_done row v io vi = ap is_done vi ∙ at (is_done row) io refl
  where
    at : (b io : Bool) → is_done row ≡ b → is_done (if b && io then Broken else row) ≡ (b && not io)
    at true true e = refl
    at true false e = e
    at false io e = e
