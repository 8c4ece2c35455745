-- What restoring gives: the table after a journal's records, how many there are, how many bytes they
-- have, and whether a torn record begins after them; or the journal's first fault.
use Rattle.std.specs.Prelude.{◌≡◌, ℕ, ◌+◌, List, [], ◌∷◌, ◌++◌, length, Bool, true, false, Option, None, codes}
use Rattle.std.specs.Fmt.{decimal}
use Rattle.std.specs.Io.KnownBytes.{Consumes, IsAtEnd}
use Rattle.chpw_rules.specs.Limits.{principal_counts}
use Rattle.chpw_table.specs.State.{State, keys_held}
use Rattle.chpw_table.specs.Agreement.{Held, Agrees}
use Rattle.chpw_record.specs.declared.record.PrincipalKey.{PrincipalKey}
use Rattle.chpw_record.specs.declared.record.KeyKind.TheVariants as kind
use Rattle.chpw_record.specs.declared.record.Record.{Record}
use Rattle.chpw_record.specs.declared.record.Record.TheVariants as record_of
use Rattle.chpw_journal.specs.declared.fault.RestoreFault.{RestoreFault}
use Rattle.chpw_journal.specs.declared.fault.RestoreFault.TheVariants.{BadRecord, WrongVersion, UnknownPrincipal, TooMany, OtherRealm, CannotRead, Memory}
use Rattle.chpw_journal.specs.declared.restoring.Restored.{Restored}
use Rattle.chpw_record.specs.Records.{records_text}
use Rattle.chpw_journal.specs.JournalText.{restored, BeginsWith, Reading, whole, bad_record, unknown_principal, wrong_version, IsReading}

-- there is something
abbrev pub is_there : List ℕ → Bool
is_there [] = false
is_there (x ∷ xs) = true

-- a table restored from all that a reader had
pub record IsRestored (before : Held) (old new : Option (List ℕ)) (r : Restored) : Type 0 where
  pub whole_records : List Record
  pub rest : List ℕ
  pub read : Consumes old new (records_text whole_records ++ rest)
  pub end : IsAtEnd new
  pub reading : (s : State) → Agrees before.state s → IsReading s (records_text whole_records ++ rest) (whole whole_records rest)
  pub table : (s : State) → Agrees before.state s → Agrees r.table.state (restored s whole_records)
  pub events : r.table.events ≡ before.events
  pub seen : r.table.seen ≡ before.seen
  pub max_entries : r.table.max_entries ≡ before.max_entries
  pub records : r.records ≡ length whole_records
  pub kept : r.kept ≡ length (records_text whole_records)
  pub torn : r.torn ≡ is_there rest

-- each text that begins with what was read has this fault
abbrev pub AlwaysReads : Held → List ℕ → Reading → Type 0
AlwaysReads before read reading = (s : State) (more : List ℕ) → Agrees before.state s → IsReading s (read ++ more) reading

-- After these records each text that begins with what was read has one that adopts a principal, and the table that they
-- give has as many as a configuration may have. The machine's state has no such limit.
pub record IsTooMany (before : Held) (read : List ℕ) (n : ℕ) : Type 0 where
  pub whole_records : List Record
  pub joining : PrincipalKey
  pub table : Held
  pub given : (s : State) → Agrees before.state s → Agrees table.state (restored s whole_records)
  pub text : (s : State) (more : List ℕ) → Agrees before.state s → BeginsWith s (read ++ more) whole_records (record_of.Key kind.Adopt joining)
  pub none_held : keys_held table.state joining.name ≡ None
  pub full : length table.state.principals ≡ principal_counts.high
  pub number : n ≡ length whole_records + 1

-- J1, J2 and J3 are the text's first fault, or J6; if it can't be read on, what was read has none. The records of a history
-- name no realm.
abbrev pub IsRefused : Held → Option (List ℕ) → Option (List ℕ) → RestoreFault → Type 0
IsRefused before old new (BadRecord n) = (read : List ℕ) × Consumes old new read × AlwaysReads before read (bad_record n)
IsRefused before old new (WrongVersion n) = (read : List ℕ) × Consumes old new read × AlwaysReads before read (wrong_version n)
IsRefused before old new (UnknownPrincipal n) = (read : List ℕ) × Consumes old new read × AlwaysReads before read (unknown_principal n)
IsRefused before old new (TooMany n) = (read : List ℕ) × Consumes old new read × IsTooMany before read n
IsRefused before old new OtherRealm = ⊥
IsRefused before old new CannotRead = (whole_records : List Record) × (rest : List ℕ) × Consumes old new (records_text whole_records ++ rest)
    × ((s : State) → Agrees before.state s → IsReading s (records_text whole_records ++ rest) (whole whole_records rest))
IsRefused before old new Memory = Unit {0}

-- a fault as it is printed
abbrev pub fault_text : RestoreFault → List ℕ
fault_text (BadRecord n) = codes "J1 at " ++ decimal n
fault_text (WrongVersion n) = codes "J2 at " ++ decimal n
fault_text (UnknownPrincipal n) = codes "J3 at " ++ decimal n
fault_text (TooMany n) = codes "J6 at " ++ decimal n
fault_text OtherRealm = codes "J5"
fault_text CannotRead = codes "J4"
fault_text Memory = codes "memory"
