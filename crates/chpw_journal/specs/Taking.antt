-- For proofs alone: what one record, after its length, does to a table that is being restored.
use Rattle.std.specs.Prelude.{◌≡◌, ◌≢◌, ℕ, ◌+◌, List, length, false, Option, None}
use Rattle.std.specs.Io.KnownBytes.{Consumes}
use Rattle.chpw_table.specs.declared.table.restoring.KeyFault.{KeyFault}
use Rattle.chpw_table.specs.declared.table.restoring.KeyFault.TheVariants.{UnknownPrincipal, WrongVersion, TooMany, Memory}
use Rattle.chpw_rules.specs.Limits.{principal_counts}
use Rattle.chpw_table.specs.State.{State, keys_held}
use Rattle.chpw_table.specs.Agreement.{Held, Agrees}
use Rattle.chpw_record.specs.declared.record.KeyKind.TheVariants as kind
use Rattle.chpw_record.specs.declared.record.Record.{Record}
use Rattle.chpw_record.specs.declared.record.Record.TheVariants as record_of
use Rattle.chpw_journal.specs.declared.fault.RestoreFault.{RestoreFault}
use Rattle.chpw_journal.specs.declared.fault.RestoreFault.TheVariants as fault
use Rattle.chpw_journal.specs.declared.restoring.Restored.{Restored}
use Rattle.chpw_record.specs.Records.{RecordFits, body_text, records_text}
use Rattle.chpw_journal.specs.JournalText.{IsNextRecord, IsOfUnknown, IsOfWrongVersion, AreNext, with_record, restored}

-- a record adopts a principal that a table with as many as a configuration may have doesn't hold
abbrev pub IsOneTooMany : Held → Record → Type 0
IsOneTooMany before (record_of.Key kind.Adopt c) =
    (keys_held before.state c.name ≡ None) × (length before.state.principals ≡ principal_counts.high)
IsOneTooMany before r = ⊥

-- why a record isn't replayed
abbrev pub IsRecordRefused : Held → Record → KeyFault → Type 0
IsRecordRefused before r UnknownPrincipal = (s : State) → Agrees before.state s → IsOfUnknown s r
IsRecordRefused before r WrongVersion = (s : State) → Agrees before.state s → IsOfWrongVersion s r
IsRecordRefused before r TooMany = IsOneTooMany before r
IsRecordRefused before r Memory = Unit {0}

pub record TakesRecord (before later : Restored) (body : List ℕ) : Type 0 where
  pub taken : Record
  pub fits : RecordFits taken
  pub text : body ≡ body_text taken
  pub table : (s : State) → Agrees before.table.state s → IsNextRecord s taken × Agrees later.table.state (with_record taken s)
  pub events : later.table.events ≡ before.table.events
  pub seen : later.table.seen ≡ before.table.seen
  pub max_entries : later.table.max_entries ≡ before.table.max_entries
  pub records : later.records ≡ before.records + 1
  pub kept : later.kept ≡ before.kept + (2 + length body)
  pub torn : later.torn ≡ before.torn

abbrev pub IsRecordFault : Restored → List ℕ → RestoreFault → Type 0
IsRecordFault before body (fault.BadRecord n) = (n ≡ before.records + 1) × ((r : Record) → RecordFits r → body ≢ body_text r)
IsRecordFault before body (fault.UnknownPrincipal n) = (n ≡ before.records + 1) × (r : Record) × RecordFits r × (body ≡ body_text r)
    × ((s : State) → Agrees before.table.state s → IsOfUnknown s r)
IsRecordFault before body (fault.WrongVersion n) = (n ≡ before.records + 1) × (r : Record) × RecordFits r × (body ≡ body_text r)
    × ((s : State) → Agrees before.table.state s → IsOfWrongVersion s r)
IsRecordFault before body (fault.TooMany n) = (n ≡ before.records + 1) × (r : Record) × RecordFits r × (body ≡ body_text r)
    × IsOneTooMany before.table r
IsRecordFault before body fault.OtherRealm = ⊥
IsRecordFault before body fault.CannotRead = ⊥
IsRecordFault before body fault.Memory = Unit {0}

-- a table restored from the records read so far
pub record IsSoFar (before : Held) (old now : Option (List ℕ)) (r : Restored) : Type 0 where
  pub whole_records : List Record
  pub read : Consumes old now (records_text whole_records)
  pub table : (s : State) → Agrees before.state s → AreNext s whole_records × Agrees r.table.state (restored s whole_records)
  pub events : r.table.events ≡ before.events
  pub seen : r.table.seen ≡ before.seen
  pub max_entries : r.table.max_entries ≡ before.max_entries
  pub records : r.records ≡ length whole_records
  pub kept : r.kept ≡ length (records_text whole_records)
  pub torn : r.torn ≡ false
