-- Runs that follow on one another.
use Rattle.std.proofs.Common.{◌≡◌, ℕ, max, List, [], ◌∷◌, ◌++◌, true, Option, Some, None, refl, sym, ◌∙◌, ap, subst, append_assoc, append-nil}
use Rattle.std.specs.Io.KnownBytes.{Consumes, IsAtEnd}
use Rattle.chpw_table.specs.declared.history.Entry.{Entry}
use Rattle.chpw_table.specs.State.{Fixed, State, new_count, opening_of}
use Rattle.chpw_table.specs.Agreement.{Agrees}
use Rattle.chpw_table.specs.History.{step_entry, outcome, is_accepted, IsLegal}
use Rattle.chpw_table.specs.Journal.{journal}
use Rattle.chpw_table.proofs.AgreementLemmas.{agrees_itself}
use Rattle.chpw_record.specs.declared.record.Record.{Record}
use Rattle.chpw_record.specs.Records.{records_text}
use Rattle.chpw_journal.specs.JournalText.{restored, Reading, whole, bad_record, unknown_principal, wrong_version, IsReading}
use Rattle.chpw_journal.specs.Restoring.{IsRestored}
use Rattle.chpw_journal.specs.Runs.{SameKeys, IsSound, BringsWhole, AreWhole, Run, AreRuns, KeepCount, journals, records_in, last_state}
use Rattle.chpw_journal.specs.Joined.{IsAlike, FollowOn, MayOpen}
use Rattle.chpw_journal.specs.JoinedLaws.{EventsStaySound, HistoriesStaySound, RunsGoOn, RunsAreLast}
use Rattle.chpw_journal.specs.JoinedLaws.{TablesMayOpen, RestoredMayOpen, ReadMayOpen, TwoRunsFollowOn}
use Rattle.chpw_journal.proofs.CountLemmas.{count_runs}
use Rattle.chpw_journal.proofs.OpeningLemmas.{openings_are_sound}
use Rattle.chpw_journal.proofs.SoundLemmas.{sound_alike}
use Rattle.chpw_journal.proofs.RunLemmas.{sound_event, same_next, same_itself, runs_next, reads_journals}

same_back : (s t : State) → SameKeys s t → SameKeys t s
same_back s t h = record { kept = sym h.kept; keys = λ name. sym (h.keys name) }

alike_back : (s t : State) → IsAlike s t → IsAlike t s
alike_back s t h = record { keys = same_back s t h.keys; count = sym h.count }

alike_next : (s t u : State) → IsAlike s t → IsAlike t u → IsAlike s u
alike_next s t u h g = record { keys = same_next s t u h.keys g.keys; count = h.count ∙ g.count }

-- a table is like each state that it agrees with
agrees_alike : (t s : State) → Agrees t s → IsAlike t s
agrees_alike t s a = record {
  keys = record { kept = ap (λ (f : Fixed). max f.policy.depth 1) a.fixed; keys = a.principals };
  count = a.count;
}

pub events_stay_sound : EventsStaySound
events_stay_sound = sound_event

pub histories_stay_sound : HistoriesStaySound
histories_stay_sound s [] sound legal w = sound
histories_stay_sound s (e ∷ es) sound legal w = histories_stay_sound (step_entry s e) es (sound_event s e.now e.io_failed e.event sound legal.0 w.0) legal.1 w.1

-- one entry more brings in what is whole
pub whole_more : (s : State) (es : List Entry) (e : Entry)
    → AreWhole s es → (is_accepted e.event ≡ true → BringsWhole (outcome s es) e.event) → AreWhole s (es ++ e ∷ [])
whole_more s [] e w h = (h, tt)
whole_more s (d ∷ es) e w h = (w.0, whole_more (step_entry s d) es e w.1 h)

runs_stay_sound : (s : State) (runs : List Run) → IsSound s → AreRuns s runs → IsSound (last_state s runs)
runs_stay_sound s [] sound h = sound
runs_stay_sound s (r ∷ rs) sound h = runs_stay_sound (outcome r.opening r.history) rs (histories_stay_sound r.opening r.history h.1 h.2 h.3) h.4

runs_more : (s : State) (runs : List Run) (r : Run) → AreRuns s runs → SameKeys (last_state s runs) r.opening
    → IsSound r.opening → IsLegal r.opening r.history → AreWhole r.opening r.history → AreRuns s (runs ++ r ∷ [])
runs_more s [] r h same sound legal w = (same, sound, legal, w, tt)
runs_more s (q ∷ qs) r h same sound legal w = (h.0, h.1, h.2, h.3, runs_more (outcome q.opening q.history) qs r h.4 same sound legal w)

counts_more : (s : State) (runs : List Run) (r : Run) → KeepCount s runs → new_count (last_state s runs) ≡ new_count r.opening → KeepCount s (runs ++ r ∷ [])
counts_more s [] r h e = (e, tt)
counts_more s (q ∷ qs) r h e = (h.0, counts_more (outcome q.opening q.history) qs r h.1 e)

pub runs_go_on : RunsGoOn
runs_go_on s runs r f may legal w = record {
  sound = f.sound;
  each = runs_more s runs r f.each may.left.keys may.sound legal w;
  counts = counts_more s runs r f.counts may.left.count;
}

last_is : (s : State) (runs : List Run) (r : Run) → last_state s (runs ++ r ∷ []) ≡ outcome r.opening r.history
last_is s [] r = refl
last_is s (q ∷ qs) r = last_is (outcome q.opening q.history) qs r

journals_more : (runs : List Run) (r : Run) → journals (runs ++ r ∷ []) ≡ journals runs ++ journal r.opening r.history
journals_more [] r = append-nil (journal r.opening r.history)
journals_more (q ∷ qs) r =
    ap (λ (xs : List ℕ). journal q.opening q.history ++ xs) (journals_more qs r)
    ∙ sym (append_assoc (journal q.opening q.history) (journals qs) (journal r.opening r.history))

pub runs_are_last : RunsAreLast
runs_are_last s runs r = (last_is s runs r, journals_more runs r)

-- what is like the state that the last run left
may_open : (s : State) (runs : List Run) (t : State) → FollowOn s runs → IsAlike (last_state s runs) t → MayOpen s runs t
may_open s runs t f h = record { sound = sound_alike (last_state s runs) t h (runs_stay_sound s runs f.sound f.each); left = h }

pub tables_may_open : TablesMayOpen
tables_may_open s runs t f a = may_open s runs t f (alike_back t (last_state s runs) (agrees_alike t (last_state s runs) a))

pub restored_may_open : RestoredMayOpen
restored_may_open s runs before t f h a =
    let put : State = restored before (records_in runs) in
    let back : IsAlike before s = alike_back s before h in
    let left : IsAlike put (last_state s runs) = record {
      keys = (runs_next before s runs back.keys f.each).1;
      count = count_runs before s runs f.each f.counts back.count;
    } in
    may_open s runs t f (alike_back t (last_state s runs) (alike_next t put (last_state s runs) (agrees_alike t put a) left))

-- runs that open with the principals of one state do so with those of another that is like it
runs_of_alike : (s t : State) (runs : List Run) → SameKeys t s → AreRuns s runs → AreRuns t runs
runs_of_alike s t [] same h = tt
runs_of_alike s t (r ∷ rs) same h = (same_next t s r.opening same h.0, h.1, h.2, h.3, h.4)

abbrev pub records_read : Reading → List Record
records_read (whole records rest) = records
records_read (bad_record n) = []
records_read (unknown_principal n) = []
records_read (wrong_version n) = []

-- all that a reader had was read
pub all_read : (text read : List ℕ) (new : Option (List ℕ)) → Consumes (Some text) new read → IsAtEnd new → read ≡ text
all_read text read None h e = absurd h
all_read text read (Some ys) h e = sym (h ∙ (ap (λ (zs : List ℕ). read ++ zs) e ∙ append-nil read))

pub read_may_open : ReadMayOpen
read_may_open s runs cut before new r f c h is =
    let text : records_text is.whole_records ++ is.rest ≡ journals runs ++ cut =
    all_read (journals runs ++ cut) (records_text is.whole_records ++ is.rest) new is.read is.end in
    let reading : IsReading before.state (journals runs ++ cut) (whole is.whole_records is.rest) =
    subst (λ (xs : List ℕ). IsReading before.state xs (whole is.whole_records is.rest)) text (is.reading before.state (agrees_itself before.state)) in
    let are : AreRuns before.state runs = runs_of_alike s before.state runs (same_back s before.state h.keys) f.each in
    let only : whole is.whole_records is.rest ≡ whole (records_in runs) cut =
    (reads_journals before.state runs cut are c).1 (whole is.whole_records is.rest) reading in
    let records : is.whole_records ≡ records_in runs = ap records_read only in
    restored_may_open s runs before.state r.table.state f h
    (subst (λ (rs : List Record). Agrees r.table.state (restored before.state rs)) records (is.table before.state (agrees_itself before.state)))

pub two_runs_follow_on : TwoRunsFollowOn
two_runs_follow_on c quiet later_quiet first before history more cut new r fits opens legal w torn again is more_legal more_w =
    let s : State = first.state in
    let one : Run = record { opening = s; history = history } in
    let alike : IsAlike s (opening_of c quiet) = agrees_alike s (opening_of c quiet) opens in
    let sound : IsSound s = sound_alike (opening_of c quiet) s (alike_back s (opening_of c quiet) alike) (openings_are_sound c quiet fits) in
    let begun : FollowOn s (one ∷ []) = record {
      sound = sound;
      each = (same_itself s, sound, legal, w, tt);
      counts = (refl, tt);
    } in
    let quieter : IsAlike (opening_of c quiet) (opening_of c later_quiet) = record { keys = record { kept = refl; keys = λ name. refl }; count = refl } in
    let like : IsAlike s before.state = alike_next s (opening_of c later_quiet) before.state
    (alike_next s (opening_of c quiet) (opening_of c later_quiet) alike quieter)
    (alike_back before.state (opening_of c later_quiet) (agrees_alike before.state (opening_of c later_quiet) again)) in
    let text : journal s history ++ cut ≡ journals (one ∷ []) ++ cut = ap (λ (xs : List ℕ). xs ++ cut) (sym (append-nil (journal s history))) in
    let read : IsRestored before (Some (journals (one ∷ []) ++ cut)) new r = subst (λ (xs : List ℕ). IsRestored before (Some xs) new r) text is in
    runs_go_on s (one ∷ []) (record { opening = r.table.state; history = more }) begun
    (read_may_open s (one ∷ []) cut before new r begun torn like read) more_legal more_w
