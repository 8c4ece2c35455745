-- Laws of a run of a service that reloads.
use Rattle.std.specs.Prelude.{◌≡◌, ℕ, ◌≤◌, List, [], ◌∷◌, Bool, Option, true, false, IsSome}
use Rattle.chpw_rules.specs.declared.name.Name.{Name}
use Rattle.chpw_rules.specs.declared.config.Config.{Config}
use Rattle.chpw_table.specs.declared.times.Moment.{Moment}
use Rattle.chpw_table.specs.declared.request.Opened.{Opened}
use Rattle.chpw_table.specs.Requests.{id_of}
use Rattle.chpw_table.specs.State.{State, keys_held, is_used, new_count}
use Rattle.chpw_table.specs.Agreement.{Held}
use Rattle.chpw_table.specs.Verdicts.{adds_id}
use Rattle.chpw_table.specs.Decision.{verdict}
use Rattle.chpw_table.specs.Laws.{NeverRemoved}
use Rattle.chpw_journal.specs.Runs.{IsSound, Run, last_state}
use Rattle.chpw_journal.specs.Joined.{FollowOn}
use Rattle.chpw_reload.specs.declared.prepared_reload.PreparedReload.{PreparedReload}
use Rattle.chpw_reload.specs.declared.reloading.NextTable.{NextTable}
use Rattle.chpw_reload.specs.Reloading.{IsPrepared, IsReloaded}
use Rattle.chpw_reload.specs.ReloadRuns.{AreHistories, AreInARow, GoesOn, IsHistory, IsServiceRun}

-- from an opening within the limits, all stays within them
abbrev pub RunsStaySound : Type 0
RunsStaySound = (s : State) (runs : List Run) → IsSound s → AreHistories s runs → IsSound (last_state s runs)

-- an id that was used is never judged past Replay again, however many histories and reloads come in between
abbrev pub UsedOverReloads : Type 0
UsedOverReloads = (s : State) (runs : List Run) (now : Moment) (o : Opened) (io : Bool) → AreHistories s runs →
    is_used s (id_of o) ≡ true → adds_id (verdict (last_state s runs) now o io) ≡ false

-- no event of these histories removed the name
abbrev pub NeverRemovedIn : Name → List Run → Type 0
NeverRemovedIn name [] = Unit {0}
NeverRemovedIn name (r ∷ rs) = NeverRemoved name r.history × NeverRemovedIn name rs

-- no name is lost that the KDC didn't remove
abbrev pub NamesOverReloads : Type 0
NamesOverReloads = (s : State) (runs : List Run) (name : Name) → AreHistories s runs → NeverRemovedIn name runs →
    IsSome (keys_held s name) → IsSome (keys_held (last_state s runs) name)

-- the count of new keys never falls
abbrev pub CountOverReloads : Type 0
CountOverReloads = (s : State) (runs : List Run) → AreHistories s runs → new_count s ≤ new_count (last_state s runs)

-- the quiet time and the realm are those of the first opening
abbrev pub QuietOverReloads : Type 0
QuietOverReloads = (s : State) (runs : List Run) → AreHistories s runs →
    ((last_state s runs).fixed.quiet_until ≡ s.fixed.quiet_until) × ((last_state s runs).fixed.realm ≡ s.fixed.realm)

-- a first history is a run; one more, which goes on from the table that was left, extends the run
abbrev pub RunsBegin : Type 0
RunsBegin = (opening : State) (table : Held) → IsHistory opening table → IsServiceRun opening table

abbrev pub RunsGoOn : Type 0
RunsGoOn = (opening next : State) (table last : Held) → IsServiceRun opening table → GoesOn table.state next → IsHistory next last →
    IsServiceRun opening last

-- so does one after a reload
abbrev pub RunsReload : Type 0
RunsReload = (opening : State) (table : Held) (file : Config) (journal rest : Option (List ℕ)) (renewal : PreparedReload) (next : NextTable) (last : Held) →
    IsServiceRun opening table → IsPrepared file journal renewal → IsReloaded renewal rest table next →
    IsHistory next.table.state last → IsServiceRun opening last

-- from an opening within the limits, histories without a reload between them follow each other as the runs do that
-- wrote one journal, so that the laws of those hold for them
abbrev pub InARowFollowOn : Type 0
InARowFollowOn = (s : State) (runs : List Run) → IsSound s → AreInARow s runs → FollowOn s runs
