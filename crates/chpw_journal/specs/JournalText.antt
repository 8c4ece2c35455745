-- What a journal's text gives: its complete records, in order, followed by one that is cut off; or its first fault.
-- Records are counted from 1, and each is checked for J1, J3, J2, in this order.
use Rattle.std.specs.Prelude.{◌≡◌, ◌≢◌, ℕ, ◌+◌, ◌≤◌, List, [], ◌∷◌, ◌++◌, length, Bool, true, false, ◌&&◌, ◌||◌, ◌==◌, nat_lt, ◌⊎◌}
use Rattle.std.specs.Prelude.{Option, is_none, unwrap_or}
use Rattle.chpw_record.specs.declared.key.KeyRow.{KeyRow}
use Rattle.chpw_record.specs.declared.record.KeyKind.{KeyKind}
use Rattle.chpw_record.specs.declared.record.KeyKind.TheVariants as kind
use Rattle.chpw_record.specs.declared.record.Record.{Record}
use Rattle.chpw_record.specs.declared.record.Record.TheVariants as record_of
use Rattle.chpw_record.specs.Records.{RecordFits, record_text, records_text, stated_length, is_record_length}
use Rattle.chpw_table.specs.State.{State, keys_held, kept_count}
use Rattle.chpw_table.specs.Decision.{newest_kvno}
use Rattle.chpw_table.specs.Restoring.{with_kept_count}
use Rattle.chpw_table.specs.Updates.{with_keys, keys_after, is_newer}

-- the state after a record: its name has what a record of its kind makes of the keys held, and a raise leaves no lower
-- count
abbrev pub with_record : Record → State → State
with_record (record_of.Key kind c) s =
    record s { principals = with_keys c.name (keys_after kind (kept_count s) c.key (keys_held s c.name)) s.principals }
with_record (record_of.Raise count) s = with_kept_count count s

-- and after these records
abbrev pub restored : State → List Record → State
restored s [] = s
restored s (r ∷ rs) = restored (with_record r s) rs

-- a record of this kind is of a name that is held; an adopted key may be the first of its name
abbrev pub needs_held : KeyKind → Bool
needs_held kind.Change = true
needs_held kind.Base = true
needs_held kind.Adopt = false
needs_held kind.Lift = true
needs_held kind.Remove = true

-- a record of this kind needs these keys, and there are none
abbrev pub is_lacked : KeyKind → Option (List KeyRow) → Bool
is_lacked kind held = needs_held kind && is_none held

-- Its version may come after these keys: a change's is the next, an adopted or lifted one is above the newest, if there is
-- one, and those of the others may be any.
abbrev pub may_follow : KeyKind → ℕ → Option (List KeyRow) → Bool
may_follow kind.Change kvno held = kvno == newest_kvno (unwrap_or held []) + 1
may_follow kind.Base kvno held = true
may_follow kind.Adopt kvno held = is_newer kvno held
may_follow kind.Lift kvno held = is_newer kvno held
may_follow kind.Remove kvno held = true

-- a record may come next: its principal is held, where its kind wants that, and so may its version; a raise may always
abbrev pub IsNextRecord : State → Record → Type 0
IsNextRecord s (record_of.Key kind c) =
    (is_lacked kind (keys_held s c.name) ≡ false) × (may_follow kind c.key.kvno (keys_held s c.name) ≡ true)
IsNextRecord s (record_of.Raise count) = Unit {0}

-- a record is of a principal that isn't held and would have to be
abbrev pub IsOfUnknown : State → Record → Type 0
IsOfUnknown s (record_of.Key kind c) = is_lacked kind (keys_held s c.name) ≡ true
IsOfUnknown s (record_of.Raise count) = ⊥

-- it isn't, and has a version that may not come next
abbrev pub IsOfWrongVersion : State → Record → Type 0
IsOfWrongVersion s (record_of.Key kind c) =
    (is_lacked kind (keys_held s c.name) ≡ false) × (may_follow kind c.key.kvno (keys_held s c.name) ≡ false)
IsOfWrongVersion s (record_of.Raise count) = ⊥

-- each record is within the limits and may come next
abbrev pub AreNext : State → List Record → Type 0
AreNext s [] = Unit {0}
AreNext s (r ∷ rs) = RecordFits r × IsNextRecord s r × AreNext (with_record r s) rs

-- a text's first record is incomplete, or there is none; its length, if that is present, is one that a record may have
abbrev pub is_cut_off : List ℕ → Bool
is_cut_off text = nat_lt (length text) 2 || (is_record_length (stated_length text) && nat_lt (length text) (2 + stated_length text))

-- J1: the first record's length is present and out of range
abbrev pub HasBadLength : List ℕ → Type 0
HasBadLength text = (2 ≤ length text) × (is_record_length (stated_length text) ≡ false)

-- J1: the first record is complete, and it is none within the limits
abbrev pub HasBadBody : List ℕ → Type 0
HasBadBody text = (2 + stated_length text ≤ length text) × ((r : Record) (left : List ℕ) → RecordFits r → text ≢ record_text r ++ left)

-- a text that begins with these records, which go on from a state, followed by this
pub record Begins (s : State) (text : List ℕ) (records : List Record) (rest : List ℕ) : Type 0 where
  pub text_is : text ≡ records_text records ++ rest
  pub next : AreNext s records

-- the text begins so, and then has this record, which is within the limits
pub record BeginsWith (s : State) (text : List ℕ) (records : List Record) (r : Record) : Type 0 where
  pub left : List ℕ
  pub begins : Begins s text records (record_text r ++ left)
  pub fits : RecordFits r

-- what a text comes to
pub data Reading : Type 0 where
  whole : List Record → List ℕ → Reading
  bad_record : ℕ → Reading
  unknown_principal : ℕ → Reading
  wrong_version : ℕ → Reading

abbrev pub IsReading : State → List ℕ → Reading → Type 0
IsReading s text (whole records rest) = Begins s text records rest × (is_cut_off rest ≡ true)
IsReading s text (bad_record n) = (records : List Record)
    × (rest : List ℕ) × Begins s text records rest × (HasBadLength rest ⊎ HasBadBody rest) × (n ≡ length records + 1)
IsReading s text (unknown_principal n) = (records : List Record) × (r : Record) × BeginsWith s text records r
    × IsOfUnknown (restored s records) r × (n ≡ length records + 1)
IsReading s text (wrong_version n) = (records : List Record) × (r : Record) × BeginsWith s text records r
    × IsOfWrongVersion (restored s records) r × (n ≡ length records + 1)
