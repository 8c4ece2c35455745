-- One more entry keeps what a book's type says.
use Rattle.std.proofs.Common.{◌≡◌, ◌≢◌, ℕ, zero, suc, ◌+◌, ◌<◌, ◌≤◌, List, [], ◌∷◌, ◌++◌, length, map, Bool}
use Rattle.std.proofs.Common.{true, false, ◌==◌, if◌then◌else◌, Option, refl, sym, ◌∙◌, ap, subst, arith}
use Rattle.std.proofs.Common.{append-nil, append_assoc, length-append, slice_index, slice_set, length-set, add-zero, zero-add}
use Rattle.std.specs.Prelude.{IfSome, All, count_by}
use Rattle.std.specs.Option.{option_map}
use Rattle.std.specs.List.{range_with_len}
use Rattle.std.proofs.lemmas.Bool.Decides.{nat_tests}
use Rattle.std.proofs.lemmas.Grind.{get_or-set_at}
use Rattle.std.proofs.lemmas.List.{get_or-set_other, map-append}
use Rattle.std.proofs.lemmas.List.Elements.{filter-append, All-append, All-cons, All-nil}
use Rattle.std.proofs.lemmas.List.Sums.{sum_by-append, length-filter, count_by-le-length}
use Rattle.chpw_table.specs.declared.times.Moment.{Moment}
use Rattle.chpw_table.specs.declared.request.Opened.{Opened}
use Rattle.chpw_table.specs.declared.outcome.Outcome.{Outcome}
use Rattle.chpw_table.specs.declared.history.Event.{Event}
use Rattle.chpw_table.specs.declared.history.Event.TheVariants.{Ask, Update}
use Rattle.chpw_table.specs.declared.history.Entry.{Entry}
use Rattle.chpw_table.specs.State.{State}
use Rattle.chpw_table.specs.History.{IsJudged, is_accepted, step_event, step_entry, outcome}
use Rattle.chpw_table.specs.Verdicts.{is_done}
use Rattle.chpw_table.specs.declared.updating.KdcUpdate.{KdcUpdate}
use Rattle.chpw_table.specs.declared.updating.UpdateVerdict.{UpdateVerdict}
use Rattle.chpw_table.specs.Updates.{is_taken, name_in, update_fits}
use Rattle.chpw_table.specs.Outcomes.{Steps, StepsBy}
use Rattle.chpw_table.specs.Journal.{journal, appended, event_appended}
use Rattle.chpw_table.specs.Agreement.{Held, Agrees}
use Rattle.chpw_table.specs.State.{keys_held}
use Rattle.chpw_table.specs.Requests.{target_of}
use Rattle.chpw_journal.specs.Runs.{BringsWhole}
use Rattle.chpw_journal.proofs.JoinedLemmas.{whole_more}
use Rattle.chpw_book.specs.Receipts.{IsNumbered, IsCounted, is_of, entries_of, next_entry}
use Rattle.chpw_book.specs.Recorded.{RecordedView, IsLinearized}
use Rattle.chpw_book.specs.Wholeness.{NewestIsWhole}
use Rattle.chpw_book.proofs.WholeLemmas.{brings_whole, update_brings_whole}
use Rattle.chpw_decider.proofs.KeepingLemmas.{legal_on, outcome_on, journal_on, journal_goes_on}

-- ---- the workers' entries

entries_more : (w : ℕ) (es : List Entry) (e : Entry) → entries_of w (es ++ e ∷ []) ≡ (if is_of w e then entries_of w es ++ e ∷ [] else entries_of w es)
entries_more w es e = filter-append (is_of w) es (e ∷ []) ∙ at (is_of w e)
  where
    at : (b : Bool) → entries_of w es ++ (if b then e ∷ [] else []) ≡ (if b then entries_of w es ++ e ∷ [] else entries_of w es)
    at true = refl
    at false = append-nil (entries_of w es)

mine_more : (w : ℕ) (es : List Entry) (e : Entry) → (e.worker == w) ≡ true → entries_of w (es ++ e ∷ []) ≡ entries_of w es ++ e ∷ []
mine_more w es e is = entries_more w es e ∙ ap (λ (b : Bool). if b then entries_of w es ++ e ∷ [] else entries_of w es) is

others_stay : (w : ℕ) (es : List Entry) (e : Entry) → (e.worker == w) ≡ false → entries_of w (es ++ e ∷ []) ≡ entries_of w es
others_stay w es e is = entries_more w es e ∙ ap (λ (b : Bool). if b then entries_of w es ++ e ∷ [] else entries_of w es) is

pub one_longer : {A : Type 0} (xs : List A) (x : A) → length (xs ++ x ∷ []) ≡ length xs + 1
one_longer xs x = length-append xs (x ∷ [])

range_more : (a n : ℕ) → range_with_len a (n + 1) ≡ range_with_len a n ++ (a + n) ∷ []
range_more a zero = ap (λ k. k ∷ []) (sym (add-zero a))
range_more a (suc n) =
    let same : (a + 1) + n ≡ a + suc n = omega arith in
    let more : suc n + 1 ≡ suc (n + 1) = omega arith in
    ap (range_with_len a) more ∙ ap (λ xs. a ∷ xs) (range_more (a + 1) n ∙ ap (λ k. range_with_len (a + 1) n ++ k ∷ []) same)

numbers_more : (es : List Entry) (e : Entry) → map (λ (x : Entry). x.number) es ≡ range_with_len 1 (length es) → e.number ≡ length es + 1
    → map (λ (x : Entry). x.number) (es ++ e ∷ []) ≡ range_with_len 1 (length (es ++ e ∷ []))
numbers_more es e h n =
    let next : e.number ≡ 1 + length es = omega (arith, n) in
    map-append (λ (x : Entry). x.number) es (e ∷ [])
    ∙ (ap (λ xs. xs ++ e.number ∷ []) h
    ∙ (ap (λ k. range_with_len 1 (length es) ++ k ∷ []) next
    ∙ (sym (range_more 1 (length es)) ∙ ap (range_with_len 1) (sym (one_longer es e)))))

numbered_more : (es : List Entry) (e : Entry) → IsNumbered es → e.number ≡ length (entries_of e.worker es) + 1 → IsNumbered (es ++ e ∷ [])
numbered_more es e h n w = at (e.worker == w) refl
  where
    at : (b : Bool) → (e.worker == w) ≡ b → map (λ (x : Entry). x.number) (entries_of w (es ++ e ∷ []))
        ≡ range_with_len 1 (length (entries_of w (es ++ e ∷ [])))
    at true is =
        let same : e.worker ≡ w = grind (arith, nat_tests) in
        let number : e.number ≡ length (entries_of w es) + 1 = n ∙ ap (λ v. length (entries_of v es) + 1) same in
        rw (mine_more w es e is) (numbers_more (entries_of w es) e (h w) number)
    at false is = rw (others_stay w es e is) (h w)

count_at : (counts : List ℕ) (es : List Entry) (e : Entry) (w : ℕ)
    → IsCounted counts es → e.worker < length counts → w < length counts → (b : Bool) → (e.worker == w) ≡ b
    → slice_index (slice_set counts e.worker (slice_index counts e.worker + 1)) w ≡ length (entries_of w (es ++ e ∷ []))
count_at counts es e w h l below true is =
    let same : w ≡ e.worker = grind (arith, nat_tests) in
    get_or-set_at counts e.worker w (slice_index counts e.worker + 1) 0 same l
    ∙ (ap (λ n. n + 1) (h.counts_are e.worker l ∙ ap (λ v. length (entries_of v es)) (sym same))
    ∙ (sym (one_longer (entries_of w es) e) ∙ ap (λ (xs : List Entry). length xs) (sym (mine_more w es e is))))
count_at counts es e w h l below false is =
    let apart : w ≢ e.worker = grind (arith, nat_tests) in
    get_or-set_other counts e.worker w (slice_index counts e.worker + 1) 0 apart
    ∙ (h.counts_are w below ∙ ap (λ (xs : List Entry). length xs) (sym (others_stay w es e is)))

counted_more : (counts : List ℕ) (es : List Entry) (e : Entry) → IsCounted counts es
    → e.worker < length counts → IsCounted (slice_set counts e.worker (slice_index counts e.worker + 1)) (es ++ e ∷ [])
counted_more counts es e h l = record {
  counts_are = λ w below. count_at counts es e w h l (simp length-set at below) (e.worker == w) refl;
  workers =
      let P : Entry → Type 0 = λ x. x.worker < length counts in
      let all : All P (es ++ e ∷ []) = All-append P es (e ∷ []) h.workers (All-cons P e [] l (All-nil P)) in
      subst (λ (n : ℕ). All (λ (x : Entry). x.worker < n) (es ++ e ∷ [])) (sym (length-set counts e.worker (slice_index counts e.worker + 1))) all;
}

-- a worker has no more entries than there are
pub few_entries : (w : ℕ) (es : List Entry) → length (entries_of w es) ≤ length es
few_entries w es = subst (λ (n : ℕ). n ≤ length es) (sym (length-filter (is_of w) es)) (count_by-le-length (is_of w) es)

count_more : (p : Entry → Bool) (es : List Entry) (e : Entry) → count_by p (es ++ e ∷ []) ≡ (if p e then count_by p es + 1 else count_by p es)
count_more p es e =
    sum_by-append (λ x. if p x then 1 else 0) es (e ∷ [])
    ∙ (ap (λ n. count_by p es + n) (zero-add (if p e then 1 else 0))
    ∙ elim (p e) as (λ b. count_by p es + (if b then 1 else 0)
    ≡ (if b then count_by p es + 1 else count_by p es)) [ true ↦ refl | false ↦ add-zero (count_by p es) ])

-- ---- all together

kept_more : (opening : State) (workers : ℕ) (prior : List ℕ) (b : RecordedView) (e : Entry) (t : Held) (n : ℕ) (told : Option (List ℕ))
    → IsLinearized opening workers prior b
    → IsJudged (outcome opening b.history) e.now e.io_failed e.event
    → Agrees t.state (step_entry (outcome opening b.history) e)
    → (is_accepted e.event ≡ true → BringsWhole (outcome opening b.history) e.event)
    → told ≡ option_map (λ xs. xs ++ event_appended (outcome opening b.history) e.event) b.told
    → e.worker < length b.counts → e.number ≡ length (entries_of e.worker b.history) + 1
    → t.events ≡ b.table.events + 1 → n ≡ b.total + 1
    → IsLinearized opening workers prior (record {
      table = t;
      history = b.history ++ e ∷ [];
      counts = slice_set b.counts e.worker (slice_index b.counts e.worker + 1);
      changes = if is_accepted e.event
          then b.changes + 1 else b.changes;
      total = n;
      told = told;
    })
kept_more opening workers prior b e t n told k decided agrees whole tells below number events total = record {
  legal = legal_on opening b.history e k.legal decided;
  agrees = subst (λ (z : State). Agrees t.state z) (sym (outcome_on opening b.history e)) agrees;
  whole = whole_more opening b.history e k.whole whole;
  numbered = numbered_more b.history e k.numbered number;
  counted = counted_more b.counts b.history e k.counted below;
  all = length-set b.counts e.worker (slice_index b.counts e.worker + 1) ∙ k.all;
  changes = ap (λ c. if is_accepted e.event then c + 1 else c) k.changes ∙ sym (count_more (λ (x : Entry). is_accepted x.event) b.history e);
  total = total ∙ (ap (λ c. c + 1) k.total ∙ sym (one_longer b.history e));
  journal =
      let more : List ℕ = event_appended (outcome opening b.history) e.event in
      subst (λ (js : List ℕ). IfSome told (λ bytes. bytes ≡ js))
      (append_assoc prior (journal opening b.history) more ∙ sym (ap (λ (js : List ℕ). prior ++ js) (journal_on opening b.history e)))
      (journal_goes_on b.told told (prior ++ journal opening b.history) more k.journal tells);
  room = let a = one_longer b.history e in let r = k.room in omega (arith, a, r, events);
}

-- an event that the machine judges so, and its entry
pub kept_event : (opening : State) (workers : ℕ) (prior : List ℕ) (b : RecordedView) (w : ℕ) (now : Moment)
    (io : Bool) (event : Event) (t : Held) (es : List Entry) (counts : List ℕ) (changes n : ℕ) (told : Option (List ℕ))
    → IsLinearized opening workers prior b → IsJudged (outcome opening b.history) now io event
    → Agrees t.state (step_event (outcome opening b.history) now io event)
    → (is_accepted event ≡ true → BringsWhole (outcome opening b.history) event)
    → told ≡ option_map (λ xs. xs ++ event_appended (outcome opening b.history) event) b.told → t.events ≡ b.table.events + 1
    → w < length b.counts → es ≡ b.history ++ next_entry b.history w now io event ∷ []
    → counts ≡ slice_set b.counts w (slice_index b.counts w + 1) → changes ≡ (if is_accepted event then b.changes + 1 else b.changes) → n ≡ b.total + 1
    → IsLinearized opening workers prior (record { table = t; history = es; counts = counts; changes = changes; total = n; told = told })
kept_event opening workers prior b w now io event t es counts changes n told k judged agrees whole tells events below h c d total =
    rw (h, c, d) (kept_more opening workers prior b (next_entry b.history w now io event) t n told k judged agrees whole tells below refl events total)

-- a step of the table, and its entry
pub kept_step : (opening : State) (workers : ℕ) (prior : List ℕ) (b : RecordedView) (w : ℕ) (now : Moment)
    (o : Opened) (r : Outcome) (t : Held) (es : List Entry) (counts : List ℕ) (changes n : ℕ) (told : Option (List ℕ))
    → IsLinearized opening workers prior b → Steps b.table t now o r
    → ((s : State) → Agrees b.table.state s → told ≡ option_map (λ xs. xs ++ appended s o r.verdict) b.told)
    → (is_done r.verdict ≡ true → NewestIsWhole (keys_held t.state (target_of o).name))
    → w < length b.counts → es ≡ b.history ++ next_entry b.history w now r.io_failed (Ask o r.verdict) ∷ []
    → counts ≡ slice_set b.counts w (slice_index b.counts w + 1) → changes ≡ (if is_done r.verdict then b.changes + 1 else b.changes) → n ≡ b.total + 1
    → IsLinearized opening workers prior (record { table = t; history = es; counts = counts; changes = changes; total = n; told = told })
kept_step opening workers prior b w now o r t es counts changes n told k steps tells newest below h c d total =
    let s : State = outcome opening b.history in
    kept_event opening workers prior b w now r.io_failed (Ask o r.verdict) t es counts changes n told k
    (steps.legal s k.agrees) (steps.agrees s k.agrees)
    (brings_whole s t.state now o r.io_failed r.verdict (steps.legal s k.agrees) (steps.agrees s k.agrees) newest)
    (tells s k.agrees) steps.events below h c d total

-- an update that the table took or not, and its entry
pub kept_update : (opening : State) (workers : ℕ) (prior : List ℕ) (b : RecordedView) (w : ℕ) (now : Moment) (io : Bool)
    (u : KdcUpdate) (v : UpdateVerdict) (t : Held) (es : List Entry) (counts : List ℕ) (changes n : ℕ) (told : Option (List ℕ))
    → IsLinearized opening workers prior b → StepsBy b.table t now io (Update u v)
    → ((s : State) → Agrees b.table.state s → told ≡ option_map (λ xs. xs ++ event_appended s (Update u v)) b.told)
    → update_fits u ≡ true → NewestIsWhole (keys_held t.state (name_in u))
    → w < length b.counts → es ≡ b.history ++ next_entry b.history w now io (Update u v) ∷ []
    → counts ≡ slice_set b.counts w (slice_index b.counts w + 1) → changes ≡ (if is_taken v then b.changes + 1 else b.changes) → n ≡ b.total + 1
    → IsLinearized opening workers prior (record { table = t; history = es; counts = counts; changes = changes; total = n; told = told })
kept_update opening workers prior b w now io u v t es counts changes n told k steps tells fits newest below h c d total =
    let s : State = outcome opening b.history in
    kept_event opening workers prior b w now io (Update u v) t es counts changes n told k
    (steps.legal s k.agrees) (steps.agrees s k.agrees)
    (update_brings_whole s t.state now u io v (steps.legal s k.agrees) (steps.agrees s k.agrees) fits newest)
    (tells s k.agrees) steps.events below h c d total
