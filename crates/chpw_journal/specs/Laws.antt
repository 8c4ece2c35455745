-- Laws of restoring.
use Rattle.std.specs.Prelude.{◌≡◌, ℕ, ℤ, ◌<◌, List, ◌++◌, length, take, true}
use Rattle.chpw_rules.specs.declared.name.Name.{Name}
use Rattle.chpw_rules.specs.declared.config.Config.{Config}
use Rattle.chpw_rules.specs.Fitting.{config_fits}
use Rattle.chpw_table.specs.State.{State, keys_held, new_count, opening_of}
use Rattle.chpw_record.specs.declared.record.Record.{Record}
use Rattle.chpw_record.specs.Records.{RecordFits, record_text, records_text}
use Rattle.chpw_journal.specs.JournalText.{restored, is_cut_off, Reading, whole, IsReading}
use Rattle.chpw_journal.specs.Runs.{IsSound, Run, AreRuns, KeepCount, journals, records_in, last_state}

-- the journals of runs, followed by a record that is cut off or nothing, are read as their records and in no other way
abbrev pub ReadsJournals : Type 0
ReadsJournals = (s : State) (runs : List Run) (cut : List ℕ) → AreRuns s runs → is_cut_off cut ≡ true →
    IsReading s (journals runs ++ cut) (whole (records_in runs) cut)
    × ((reading : Reading) → IsReading s (journals runs ++ cut) reading → reading ≡ whole (records_in runs) cut)

-- these records are the journals
abbrev pub RecordsAreJournals : Type 0
RecordsAreJournals = (runs : List Run) → records_text (records_in runs) ≡ journals runs

-- they give the keys that the last run left
abbrev pub RestoresKeys : Type 0
RestoresKeys = (s : State) (runs : List Run) → AreRuns s runs
    → (name : Name) → keys_held (restored s (records_in runs)) name ≡ keys_held (last_state s runs) name

-- if the runs keep the count, they give the count that the last run left
abbrev pub RestoresCount : Type 0
RestoresCount = (s : State) (runs : List Run) → AreRuns s runs → KeepCount s runs → new_count (restored s (records_in runs)) ≡ new_count (last_state s runs)

-- a proper beginning of a record is cut off
abbrev pub FrontsAreCutOff : Type 0
FrontsAreCutOff = (c : Record) (n : ℕ) → RecordFits c → n < length (record_text c) → is_cut_off (take n (record_text c)) ≡ true

-- a configuration that fits opens with what is within the limits
abbrev pub OpeningsAreSound : Type 0
OpeningsAreSound = (c : Config) (quiet_until : ℤ) → config_fits c ≡ true → IsSound (opening_of c quiet_until)
