-- What is said of the record at which restoring a journal ends: what it says of its principal, and what was wanted of it by
-- what is held once the records before it are replayed; or both realms.
use Rattle.std.specs.Prelude.{◌≡◌, ◌≢◌, ℕ, ◌+◌, List, [], ◌∷◌, ◌++◌, length, Bool, true, false, Option, Some, None, codes}
use Rattle.std.specs.Fmt.{decimal}
use Rattle.std.specs.Io.KnownBytes.{Consumes}
use Rattle.chpw_printing.specs.Quoting.{name_text, quoted}
use Rattle.chpw_record.specs.declared.key.KeyRow.{KeyRow}
use Rattle.chpw_record.specs.declared.record.KeyKind.{KeyKind}
use Rattle.chpw_record.specs.declared.record.KeyKind.TheVariants as kind
use Rattle.chpw_record.specs.declared.record.Record.{Record}
use Rattle.chpw_record.specs.declared.record.Record.TheVariants as record_of
use Rattle.chpw_record.specs.Records.{RecordFits, body_text, records_text}
use Rattle.chpw_table.specs.State.{State, keys_held}
use Rattle.chpw_table.specs.Agreement.{Held, Agrees}
use Rattle.chpw_table.specs.Decision.{newest_kvno}
use Rattle.chpw_journal.specs.declared.explaining.Explanation.{Explanation}
use Rattle.chpw_journal.specs.declared.explaining.Explanation.TheVariants as told
use Rattle.chpw_journal.specs.declared.explaining.RefusedRecord.{RefusedRecord}
use Rattle.chpw_journal.specs.declared.explaining.Expectation.{Expectation}
use Rattle.chpw_journal.specs.declared.explaining.Expectation.TheVariants.{Version, Above, Principal, Room}
use Rattle.chpw_journal.specs.declared.fault.RestoreFault.{RestoreFault}
use Rattle.chpw_journal.specs.declared.fault.RestoreFault.TheVariants.{BadRecord, WrongVersion, UnknownPrincipal, TooMany, OtherRealm, CannotRead, Memory}
use Rattle.chpw_journal.specs.Headings.{IsBehind, realm_record}
use Rattle.chpw_journal.specs.JournalText.{restored, AreNext}

-- of a record whose principal isn't held: that it is, or room for one that joins
abbrev pub wanted_without : KeyKind → Expectation
wanted_without kind.Change = Principal
wanted_without kind.Base = Principal
wanted_without kind.Adopt = Room
wanted_without kind.Lift = Principal
wanted_without kind.Remove = Principal

-- of one whose principal has this newest version: a change's is the next, an adopted or lifted one is above it
abbrev pub wanted_after : KeyKind → ℕ → Option Expectation
wanted_after kind.Change newest = Some (Version (newest + 1))
wanted_after kind.Base newest = None
wanted_after kind.Adopt newest = Some (Above newest)
wanted_after kind.Lift newest = Some (Above newest)
wanted_after kind.Remove newest = None

abbrev pub wanted_of : KeyKind → Option (List KeyRow) → Option Expectation
wanted_of kind None = Some (wanted_without kind)
wanted_of kind (Some keys) = wanted_after kind (newest_kvno keys)

-- what is said of a record in a state: its name and its version, and what is wanted by the keys held of the name
abbrev pub Tells : State → Record → RefusedRecord → Type 0
Tells s (record_of.Key kind c) r = (r.name ≡ c.name) × (r.kvno ≡ c.key.kvno) × (wanted_of kind (keys_held s c.name) ≡ Some r.wanted)
Tells s (record_of.Raise count) r = ⊥

-- of the record with this text after its length
abbrev pub IsToldIn : State → List ℕ → RefusedRecord → Type 0
IsToldIn s body r = (refused : Record) × RecordFits refused × (body ≡ body_text refused) × Tells s refused r

-- of the record of this number, after those that can be replayed before it
pub record IsToldOf (before : Held) (old : Option (List ℕ)) (number : ℕ) (r : RefusedRecord) : Type 0 where
  pub whole_records : List Record
  pub refused : Record
  pub left : Option (List ℕ)
  pub read : Consumes old left (records_text (whole_records ++ refused ∷ []))
  pub fits : RecordFits refused
  pub number_is : number ≡ length whole_records + 1
  pub told : (s : State) → Agrees before.state s → AreNext s whole_records × Tells (restored s whole_records) refused r

-- the number that a fault has, where its record can be read
abbrev pub number_of : RestoreFault → Option ℕ
number_of (BadRecord n) = None
number_of (WrongVersion n) = Some n
number_of (UnknownPrincipal n) = Some n
number_of (TooMany n) = Some n
number_of OtherRealm = None
number_of CannotRead = None
number_of Memory = None

abbrev pub is_version_fault : RestoreFault → Bool
is_version_fault (WrongVersion n) = true
is_version_fault fault = false

abbrev pub is_principal_fault : RestoreFault → Bool
is_principal_fault (UnknownPrincipal n) = true
is_principal_fault fault = false

abbrev pub is_room_fault : RestoreFault → Bool
is_room_fault (TooMany n) = true
is_room_fault fault = false

-- this is wanted at such a fault
abbrev pub is_of_fault : RestoreFault → Expectation → Bool
is_of_fault fault (Version n) = is_version_fault fault
is_of_fault fault (Above n) = is_version_fault fault
is_of_fault fault Principal = is_principal_fault fault
is_of_fault fault Room = is_room_fault fault

-- what is said of a fault after the heading
abbrev pub IsExplainedBehind : Held → Option (List ℕ) → RestoreFault → Explanation → Type 0
IsExplainedBehind before behind fault (told.Record number r) =
    (number_of fault ≡ Some number) × (is_of_fault fault r.wanted ≡ true) × IsToldOf before behind number r
IsExplainedBehind before behind fault (told.Realm found held) = ⊥

-- what is said of a whole journal's fault: of its record, after the heading; or of another realm, that of the heading and
-- the table's
abbrev pub IsExplained : Held → Option (List ℕ) → RestoreFault → Explanation → Type 0
IsExplained before old fault (told.Record number r) = (is_named : Bool) × (behind : Option (List ℕ))
    × IsBehind before.state.fixed.realm is_named old behind × IsExplainedBehind before behind fault (told.Record number r)
IsExplained before old fault (told.Realm found held) = (fault ≡ OtherRealm) × (left : Option (List ℕ))
    × Consumes old left (realm_record found.items) × (held.items ≡ before.state.fixed.realm) × (found.items ≢ held.items)

-- ---- its line

abbrev pub wanted_text : Expectation → List ℕ
wanted_text (Version version) = codes ", wanted " ++ decimal version
wanted_text (Above version) = codes ", wanted one above " ++ decimal version
wanted_text Principal = codes ", but no such principal in the configuration, or removed before this record"
wanted_text Room = codes ", but there are as many principals as there may be"

abbrev pub record_text : RefusedRecord → List ℕ
record_text r = name_text r.name ++ (codes ": version " ++ (decimal r.kvno ++ wanted_text r.wanted))

abbrev pub realms_text : (found held : List ℕ) → List ℕ
realms_text found held = codes "of realm " ++ (quoted found ++ (codes ", wanted " ++ quoted held))

abbrev pub explanation_text : Explanation → List ℕ
explanation_text (told.Record number r) = record_text r
explanation_text (told.Realm found held) = realms_text found.items held.items

-- where that is, in a line of its own
abbrev pub place_text : Explanation → List ℕ
place_text (told.Record number r) = codes "at " ++ (decimal number ++ codes ": ")
place_text (told.Realm found held) = []
