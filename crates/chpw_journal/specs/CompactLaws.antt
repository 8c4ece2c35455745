-- Laws of a compact journal.
use Rattle.std.specs.Prelude.{◌≡◌, ℕ, ℤ, ◌≤◌, max, List, ◌++◌, true, Option, Some}
use Rattle.chpw_rules.specs.declared.config.Config.{Config}
use Rattle.chpw_rules.specs.Fitting.{config_fits}
use Rattle.chpw_table.specs.State.{State, kept_count, new_count, opening_of}
use Rattle.chpw_table.specs.Agreement.{Held, Agrees}
use Rattle.chpw_record.specs.declared.record.Record.{Record}
use Rattle.chpw_journal.specs.declared.restoring.Restored.{Restored}
use Rattle.chpw_record.specs.Records.{records_text}
use Rattle.chpw_journal.specs.JournalText.{restored, is_cut_off, AreNext, Reading, whole, IsReading}
use Rattle.chpw_journal.specs.Restoring.{IsRestored}
use Rattle.chpw_journal.specs.Runs.{SameKeys, Run, journals, records_in, last_state}
use Rattle.chpw_journal.specs.Joined.{IsAlike, FollowOn, MayOpen}
use Rattle.chpw_journal.specs.Known.{IsFoundAgain}
use Rattle.chpw_journal.specs.Compact.{compacted, HoldsInRow, HasOrder, AreWholeRecords, MayCompact}

-- what restoring a compact journal gives: of each name the keys that are held, as many kept, and the greater count
pub record IsGiven (opening s given : State) : Type 0 where
  pub same : SameKeys given s
  pub count : new_count given ≡ max (new_count opening) (new_count s)

abbrev pub CompactGives : Type 0
CompactGives = (opening s : State) → MayCompact opening s → IsGiven opening s (restored opening (compacted opening s))

-- its records are within the limits, and each may come next
abbrev pub CompactIsNext : Type 0
CompactIsNext = (opening s : State) → MayCompact opening s → AreNext opening (compacted opening s)

-- Runs that go on from the state write after it. All together is read as its records and theirs and in no other way.
abbrev pub CompactReads : Type 0
CompactReads = (opening s : State) (runs : List Run) (cut : List ℕ) → MayCompact opening s → FollowOn s runs → is_cut_off cut ≡ true →
    let text : List ℕ = records_text (compacted opening s) ++ journals runs ++ cut in
    IsReading opening text (whole (compacted opening s ++ records_in runs) cut)
    × ((reading : Reading) → IsReading opening text reading → reading ≡ whole (compacted opening s ++ records_in runs) cut)

-- a start over it finds what the last run left, all names and no other, and its count too
abbrev pub CompactIsFoundAgain : Type 0
CompactIsFoundAgain = (opening s : State) (runs : List Run) → MayCompact opening s → FollowOn s runs → new_count opening ≤ new_count s →
    IsFoundAgain opening (compacted opening s ++ records_in runs) (last_state s runs)
    × IsAlike (restored opening (compacted opening s ++ records_in runs)) (last_state s runs)

-- a further run may open with what `restore` makes of a table like the opening and of a reader that has all this
abbrev pub CompactMayOpen : Type 0
CompactMayOpen = (opening s : State) (runs : List Run) (cut : List ℕ) (before : Held) (new : Option (List ℕ)) (r : Restored) →
    MayCompact opening s → new_count opening ≤ new_count s →
    FollowOn s runs → is_cut_off cut ≡ true → IsAlike opening before.state →
    IsRestored before (Some (records_text (compacted opening s) ++ journals runs ++ cut)) new r → MayOpen s runs r.table.state

-- ---- which states hold keys in a row

-- a fitting configuration's opening does
abbrev pub OpeningsHoldInRow : Type 0
OpeningsHoldInRow = (c : Config) (quiet_until : ℤ) → config_fits c ≡ true → HoldsInRow (opening_of c quiet_until)

-- what is restored does
abbrev pub RestoredHoldInRow : Type 0
RestoredHoldInRow = (s : State) (records : List Record) → HoldsInRow s → AreNext s records → HoldsInRow (restored s records)

-- what runs that go on from it leave does
abbrev pub RunsHoldInRow : Type 0
RunsHoldInRow = (s : State) (runs : List Run) → FollowOn s runs → HoldsInRow s → HoldsInRow (last_state s runs)

-- and a table that agrees with it
abbrev pub AgreeHoldInRow : Type 0
AgreeHoldInRow = (s t : State) → Agrees t s → HoldsInRow s → HoldsInRow t

-- So a compact journal may be made over an opening for a table that runs left, if the first of them opened with keys in
-- a row and no lower count, and kept as many keys; the table's count isn't lower either.
abbrev pub RunsMayCompact : Type 0
RunsMayCompact = (opening s held : State) (runs : List Run) → FollowOn s runs → Agrees held (last_state s runs) → HoldsInRow s →
    kept_count opening ≡ kept_count s → new_count opening ≤ new_count s →
    HasOrder opening × HasOrder held → AreWholeRecords (compacted opening held) →
    MayCompact opening held × (new_count opening ≤ new_count held)
