-- The journal of a run gives the iteration count that the run left.
use Rattle.std.proofs.Common.{◌≡◌, ℕ, ◌<◌, max, List, [], ◌∷◌, Bool, true, false, ◌||◌, if◌then◌else◌, refl, sym, ◌∙◌, ap, arith}
use Rattle.std.specs.Prelude.{nat_le}
use Rattle.std.proofs.lemmas.Bool.Decides.{nat_tests}
use Rattle.chpw_table.specs.declared.times.Moment.{Moment}
use Rattle.chpw_table.specs.declared.raising.RaiseVerdict.TheVariants as raise
use Rattle.chpw_table.specs.declared.history.Event.{Event}
use Rattle.chpw_table.specs.declared.history.Event.TheVariants.{Ask, Raise, Update}
use Rattle.chpw_table.specs.declared.history.Entry.{Entry}
use Rattle.chpw_table.specs.State.{State, new_count}
use Rattle.chpw_table.specs.Raising.{raise_verdict, is_raised}
use Rattle.chpw_table.specs.History.{step_event, step_entry, outcome, is_accepted, IsLegal, IsJudged}
use Rattle.chpw_journal.specs.JournalText.{restored}
use Rattle.chpw_journal.specs.Runs.{record_by, event_records, records_of, Run, AreRuns, KeepCount, records_in, last_state}
use Rattle.chpw_journal.specs.Laws.{RestoresCount}
use Rattle.chpw_journal.proofs.RecordsLemmas.{restored_joined}

-- a raise that is accepted is to a higher count
higher : (count n : ℕ) (low broken : Bool) → nat_le count n ≡ low
    → is_raised (if low then raise.NotHigher else if broken then raise.Broken else raise.Raised) ≡ true → n < count
higher count n true broken e h = absurd (cc)
higher count n false true e h = absurd (cc)
higher count n false false e h = grind (arith, nat_tests)

raised_count : (b : Bool) (m n : ℕ) → b ≡ true → (if b then m else n) ≡ m
raised_count true m n h = refl
raised_count false m n h = absurd (cc)

stayed_count : (b : Bool) (m n : ℕ) → b ≡ false → (if b then m else n) ≡ n
stayed_count true m n h = absurd (cc)
stayed_count false m n h = refl

the_greater : (a b c : ℕ) → a ≡ b → b < c → max a c ≡ c
the_greater a b c e h = omega (arith, e, h)

-- an event's record does to the count what the event did
count_after : (t s : State) (now : Moment) (io : Bool) (event : Event) → IsJudged s now io event → new_count t ≡ new_count s
    → (b : Bool) → is_accepted event ≡ b → new_count (restored t (if b then record_by s event ∷ [] else [])) ≡ new_count (step_event s now io event)
count_after t s now io (Ask o v) d same true h = same
count_after t s now io (Ask o v) d same false h = same
count_after t s now io (Raise count v) d same true h =
    let done : is_raised (raise_verdict s count io) ≡ true = ap is_raised (sym d.verdict_is) ∙ h in
    the_greater (new_count t) (new_count s) count same (higher count (new_count s) (nat_le count (new_count s)) (s.broken || io) refl done)
    ∙ sym (raised_count (is_raised (raise_verdict s count io)) count (new_count s) done)
count_after t s now io (Raise count v) d same false h =
    same ∙ sym (stayed_count (is_raised (raise_verdict s count io)) count (new_count s) (ap is_raised (sym d.verdict_is) ∙ h))
count_after t s now io (Update u v) d same true h = same
count_after t s now io (Update u v) d same false h = same

count_history : (t s : State) (es : List Entry) → IsLegal s es → new_count t ≡ new_count s → new_count (restored t (records_of s es)) ≡ new_count (outcome s es)
count_history t s [] legal same = same
count_history t s (e ∷ es) legal same =
    ap new_count (restored_joined t (event_records s e.event) (records_of (step_entry s e) es))
    ∙ count_history (restored t (event_records s e.event)) (step_entry s e) es legal.1
    (count_after t s e.now e.io_failed e.event legal.0 same (is_accepted e.event) refl)

pub count_runs : (t s : State) (runs : List Run) → AreRuns s runs → KeepCount s runs
    → new_count t ≡ new_count s → new_count (restored t (records_in runs)) ≡ new_count (last_state s runs)
count_runs t s [] h k same = same
count_runs t s (r ∷ rs) h k same =
    ap new_count (restored_joined t (records_of r.opening r.history) (records_in rs))
    ∙ count_runs (restored t (records_of r.opening r.history)) (outcome r.opening r.history) rs h.4 k.1
    (count_history t r.opening r.history h.2 (same ∙ k.0))

pub restores_count : RestoresCount
restores_count s runs h k = count_runs s s runs h k refl
