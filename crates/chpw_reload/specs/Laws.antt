-- Laws of a reload.
use Rattle.std.specs.Prelude.{◌≡◌, ℕ, ℤ, ◌+◌, ◌≤◌, List, ◌∷◌, ◌++◌, drop, take, true, false, Option, Some, None, IsSome, option_map}
use Rattle.chpw_rules.specs.declared.name.Name.{Name}
use Rattle.chpw_rules.specs.declared.config.Config.{Config}
use Rattle.chpw_rules.specs.Fitting.{config_fits}
use Rattle.chpw_table.specs.declared.request.RequestId.{RequestId}
use Rattle.chpw_record.specs.declared.key.KeyRow.{KeyRow}
use Rattle.chpw_table.specs.State.{State, keys_held, is_used, kept_count, new_count, opening_of}
use Rattle.chpw_table.specs.Times.{is_later}
use Rattle.chpw_table.specs.Agreement.{Held, Agrees}
use Rattle.chpw_record.specs.declared.record.Record.{Record}
use Rattle.chpw_journal.specs.declared.restoring.Restored.{Restored}
use Rattle.chpw_record.specs.Records.{records_text}
use Rattle.chpw_journal.specs.JournalText.{restored, is_cut_off, AreNext, IsOfUnknown, Reading, whole, IsReading}
use Rattle.chpw_journal.specs.Restoring.{IsRestored}
use Rattle.chpw_journal.specs.Runs.{IsSound, Run, journals, records_in, last_state}
use Rattle.chpw_journal.specs.Joined.{FollowOn}
use Rattle.chpw_journal.specs.Known.{AreKnown, IsFoundAgain}
use Rattle.chpw_journal.specs.Compact.{compacted, HasOrder, AreWholeRecords, MayCompact}
use Rattle.chpw_report.specs.Held.{opening}
use Rattle.chpw_reload.specs.declared.prepared_reload.PreparedReload.{PreparedReload}
use Rattle.chpw_reload.specs.declared.reloading.NextTable.{NextTable}
use Rattle.chpw_reload.specs.Comparing.{AreNewest, HoldAlike}
use Rattle.chpw_reload.specs.Reloading.{IsPrepared, IsReloaded}
use Rattle.chpw_reload.specs.Reloads.{IsReload}

-- an id was used before if it is used after, except those too old to be judged
abbrev pub IdsStay : Type 0
IdsStay = (file : Config) (records : List Record) (left next : State) → IsReload file records left next →
    (id : RequestId) → is_later left.clock id.ctime ≡ false → is_used next id ≡ is_used left id

-- each name that was held is held, and its keys, as many as are kept now, are its newest still
abbrev pub KeysStay : Type 0
KeysStay = (file : Config) (records : List Record) (left next : State) → IsReload file records left next →
    (name : Name) (keys : List KeyRow) → keys_held left name ≡ Some keys →
    (later : List KeyRow) × (keys_held next name ≡ Some later) × AreNewest (take (kept_count next) keys) later

-- a name that the new file and the journal give has the keys that they give; another one keeps the newest of its own
abbrev pub KeysAreGiven : Type 0
KeysAreGiven = (file : Config) (records : List Record) (left next : State) → IsReload file records left next → (name : Name) →
    (IsSome (keys_held (restored (opening file) records) name) → keys_held next name ≡ keys_held (restored (opening file) records) name)
    × (keys_held (restored (opening file) records) name ≡ None → keys_held next name ≡ option_map (take (kept_count next)) (keys_held left name))

-- the count of new keys never falls
abbrev pub CountStays : Type 0
CountStays = (file : Config) (records : List Record) (left next : State) → IsReload file records left next →
    new_count left ≤ new_count next

-- no quiet time begins, and the clock, the realm and a broken journal stay
abbrev pub TimesStay : Type 0
TimesStay = (file : Config) (records : List Record) (left next : State) → IsReload file records left next →
    (next.fixed.quiet_until ≡ left.fixed.quiet_until) × (next.clock ≡ left.clock)
    × (next.fixed.realm ≡ left.fixed.realm) × (next.broken ≡ left.broken)

-- the next history opens within the limits
abbrev pub ReloadsAreSound : Type 0
ReloadsAreSound = (file : Config) (records : List Record) (left next : State) → IsReload file records left next → IsSound next

-- a name of the file that the journal's records removed wasn't held any more
abbrev pub RemovedAreGone : Config → List Record → State → Type 0
RemovedAreGone file records left = (name : Name) → IsSome (keys_held (opening file) name) →
    keys_held (restored (opening file) records) name ≡ None → keys_held left name ≡ None

-- A start over the new file finds what the journal has of before the reload and of the runs after it, if no record of
-- these is of a principal that was kept though file and journal lack it
abbrev pub LaterStartsFind : Type 0
LaterStartsFind = (file : Config) (records : List Record) (left next : State) (runs : List Run) (quiet : ℤ) →
    IsReload file records left next → FollowOn next runs → AreKnown (restored (opening file) records) next (records_in runs) →
    RemovedAreGone file records left →
    IsFoundAgain (opening_of file quiet) (records ++ records_in runs) (last_state next runs)

-- and it reads the journal in this way only
abbrev pub LaterStartsRead : Type 0
LaterStartsRead = (file : Config) (records : List Record) (left next : State) (runs : List Run) (quiet : ℤ) (cut : List ℕ) →
    IsReload file records left next → FollowOn next runs → AreKnown (restored (opening file) records) next (records_in runs) → is_cut_off cut ≡ true →
    let text : List ℕ = records_text records ++ journals runs ++ cut in
    IsReading (opening_of file quiet) text (whole (records ++ records_in runs) cut)
    × ((reading : Reading) → IsReading (opening_of file quiet) text reading → reading ≡ whole (records ++ records_in runs) cut)

-- no start is possible if a record, unless it adopts one, is of a principal that file and records before it lack
abbrev pub StartsKnowAll : Type 0
StartsKnowAll = (file : Config) (quiet : ℤ) (records more : List Record) (r : Record) →
    AreNext (opening_of file quiet) (records ++ r ∷ more) → IsOfUnknown (restored (opening_of file quiet) records) r → ⊥

-- for a service that began with a file and these records, a start over the file finds the same again
abbrev pub StartsFindAgain : Type 0
StartsFindAgain = (file : Config) (records : List Record) (quiet : ℤ) (s : State) (runs : List Run) →
    AreNext (opening file) records → Agrees s (restored (opening_of file quiet) records) → FollowOn s runs →
    IsFoundAgain (opening file) (records ++ records_in runs) (last_state s runs)

-- If a start over the first file finds what was left, a new file is not refused for the journal or for keys when: the
-- keys of its principals in the first file, as many as the new depth keeps, are their newest; both files have the same of
-- those that a record is of; and of those that were left it has only such as the first file has too
abbrev pub FilesGoOn : Type 0
FilesGoOn = (first file : Config) (records : List Record) (left closed renewed : State) →
    IsFoundAgain (opening first) records left → ((name : Name) → HoldAlike (opening first) (opening file) name) →
    AreKnown (opening file) (opening first) records × AreKnown (opening first) (opening file) records →
    ((name : Name) → IsSome (keys_held left name) → IsSome (keys_held (opening file) name) → IsSome (keys_held (opening first) name)) →
    Agrees closed left → Agrees renewed (restored (opening file) records) →
    AreNext (opening file) records × ((name : Name) → HoldAlike closed renewed name)

-- a journal that is read in two parts, the second from after the complete records of the first, is read as if at once
abbrev pub TwoPartsAreOne : Type 0
TwoPartsAreOne = (before : Held) (front more : List ℕ) (new later : Option (List ℕ)) (first second : Restored) →
    IsRestored before (Some front) new first → IsRestored first.table (Some (drop first.kept (front ++ more))) later second →
    IsRestored before (Some (front ++ more)) later
    (record second { records = first.records + second.records; kept = first.kept + second.kept })

-- what `prepare` and `finish` give is a reload
abbrev pub ReloadedIsReload : Type 0
ReloadedIsReload = (file : Config) (journal rest : Option (List ℕ)) (renewal : PreparedReload) (closed : Held) (next : NextTable) (left : State) →
    IsPrepared file journal renewal → IsReloaded renewal rest closed next → Agrees closed.state left →
    (records : List Record) × IsReload file records left next.table.state

-- A compact journal may be made over a table of the new file, for a table that was left by what a reload opened with
-- and by the runs after it. The file's count isn't greater than the one that was left.
abbrev pub ReloadsMayCompact : Type 0
ReloadsMayCompact = (file : Config) (records : List Record) (left next start held : State) (runs : List Run) (quiet : ℤ) →
    IsReload file records left next → FollowOn next runs → Agrees start (opening_of file quiet) → Agrees held (last_state next runs) →
    HasOrder start × HasOrder held → AreWholeRecords (compacted start held) → MayCompact start held × (new_count start ≤ new_count held)

-- and over one of the file that a service began with, for a table that it left
abbrev pub StartsMayCompact : Type 0
StartsMayCompact = (file : Config) (records : List Record) (start held s : State) (runs : List Run) (quiet later : ℤ) →
    config_fits file ≡ true → AreNext (opening_of file quiet) records → Agrees s (restored (opening_of file quiet) records) →
    FollowOn s runs → Agrees start (opening_of file later) → Agrees held (last_state s runs) →
    HasOrder start × HasOrder held → AreWholeRecords (compacted start held) → MayCompact start held × (new_count start ≤ new_count held)
