-- Laws of runs that follow each other, and of what is restored from their journal.
use Rattle.std.specs.Prelude.{◌≡◌, ℕ, ℤ, List, [], ◌∷◌, ◌++◌, Bool, true, Option, Some}
use Rattle.chpw_rules.specs.declared.config.Config.{Config}
use Rattle.chpw_rules.specs.Fitting.{config_fits}
use Rattle.chpw_table.specs.declared.times.Moment.{Moment}
use Rattle.chpw_table.specs.declared.history.Event.{Event}
use Rattle.chpw_table.specs.declared.history.Entry.{Entry}
use Rattle.chpw_table.specs.State.{State, opening_of}
use Rattle.chpw_table.specs.Agreement.{Held, Agrees}
use Rattle.chpw_table.specs.History.{step_event, outcome, is_accepted, IsJudged, IsLegal}
use Rattle.chpw_table.specs.Journal.{journal}
use Rattle.chpw_journal.specs.declared.restoring.Restored.{Restored}
use Rattle.chpw_journal.specs.JournalText.{restored, is_cut_off}
use Rattle.chpw_journal.specs.Restoring.{IsRestored}
use Rattle.chpw_journal.specs.Runs.{IsSound, BringsWhole, AreWhole, Run, journals, records_in, last_state}
use Rattle.chpw_journal.specs.Joined.{IsAlike, FollowOn, MayOpen}

-- an event leads from a state within the limits to one within them, if what it adds is well-formed
abbrev pub EventsStaySound : Type 0
EventsStaySound = (s : State) (now : Moment) (io : Bool) (event : Event) → IsSound s → IsJudged s now io event →
    (is_accepted event ≡ true → BringsWhole s event) → IsSound (step_event s now io event)

-- and so does a legal history
abbrev pub HistoriesStaySound : Type 0
HistoriesStaySound = (s : State) (history : List Entry) → IsSound s → IsLegal s history → AreWhole s history →
    IsSound (outcome s history)

-- a run follows the others if it opens with what may be opened with, and has a legal history
abbrev pub RunsGoOn : Type 0
RunsGoOn = (s : State) (runs : List Run) (r : Run) → FollowOn s runs → MayOpen s runs r.opening →
    IsLegal r.opening r.history → AreWhole r.opening r.history → FollowOn s (runs ++ r ∷ [])

-- it leaves what its history leads to, and its journal follows theirs
abbrev pub RunsAreLast : Type 0
RunsAreLast = (s : State) (runs : List Run) (r : Run) →
    (last_state s (runs ++ r ∷ []) ≡ outcome r.opening r.history)
    × (journals (runs ++ r ∷ []) ≡ journals runs ++ journal r.opening r.history)

-- a further run may open with a table that the last one left
abbrev pub TablesMayOpen : Type 0
TablesMayOpen = (s : State) (runs : List Run) (t : State) → FollowOn s runs → Agrees t (last_state s runs) →
    MayOpen s runs t

-- and with a table like the one that the first opened with, once their records are replayed
abbrev pub RestoredMayOpen : Type 0
RestoredMayOpen = (s : State) (runs : List Run) (before t : State) → FollowOn s runs → IsAlike s before →
    Agrees t (restored before (records_in runs)) → MayOpen s runs t

-- so it may with what `restore` makes of such a table and of a reader that has their journal, followed by a record that
-- is cut off or nothing
abbrev pub ReadMayOpen : Type 0
ReadMayOpen = (s : State) (runs : List Run) (cut : List ℕ) (before : Held) (new : Option (List ℕ)) (r : Restored) →
    FollowOn s runs → is_cut_off cut ≡ true → IsAlike s before.state →
    IsRestored before (Some (journals runs ++ cut)) new r → MayOpen s runs r.table.state

-- Two runs under one configuration: the first opens with a table of it, the second with what `restore`
-- makes of such a table and of the first one's journal. Each has a legal history.
abbrev pub TwoRunsFollowOn : Type 0
TwoRunsFollowOn = (c : Config) (quiet later_quiet : ℤ) (first before : Held) (history more : List Entry) (cut : List ℕ)
    (new : Option (List ℕ)) (r : Restored) → config_fits c ≡ true →
    Agrees first.state (opening_of c quiet) → IsLegal first.state history → AreWhole first.state history →
    is_cut_off cut ≡ true → Agrees before.state (opening_of c later_quiet) →
    IsRestored before (Some (journal first.state history ++ cut)) new r →
    IsLegal r.table.state more → AreWhole r.table.state more →
    FollowOn first.state (record { opening = first.state; history = history } ∷ record { opening = r.table.state; history = more } ∷ [])
