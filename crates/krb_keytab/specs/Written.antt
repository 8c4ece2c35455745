-- Keytabs as they are written (MIT Kerberos, keytab file format 0x0502), each number high byte first.
use Rattle.std.specs.Prelude.{◌≡◌, ℕ, ◌+◌, ◌-◌, ◌<◌, ◌^◌, List, [], ◌∷◌, ◌++◌, length}
use Rattle.std.specs.List.{flat_map, AllByRecursion}
use Rattle.std.specs.Int.{cast_unsigned, to_be_bytes, w8, w16, w32}
use Rattle.std.specs.Int.RustNames.{FitsSigned}
use Rattle.krb_keytab.specs.Entries.{Entry, number_at, kvno_of}

-- bytes after their count
abbrev pub counted : List ℕ → List ℕ
counted bytes = to_be_bytes w16 (length bytes) ++ bytes

-- the fields of an entry, with a kvno in 8 bits and whatever follows the key
abbrev pub fields : Entry → (short : ℕ) → (after_key : List ℕ) → List ℕ
fields e short after_key =
    to_be_bytes w16 (length e.components)
    ++ (counted e.realm
    ++ (flat_map counted e.components
    ++ (to_be_bytes w32 e.name_type
    ++ (to_be_bytes w32 e.timestamp
    ++ (to_be_bytes w8 short
    ++ (to_be_bytes w16 (cast_unsigned w16 e.etype)
    ++ (counted e.key
    ++ after_key)))))))

-- a record: an entry, or a hole with whatever it holds
pub data KeytabRecord : Type 0 where
  an_entry : (e : Entry) (short : ℕ) (after_key : List ℕ) → KeytabRecord
  a_hole : (bytes : List ℕ) → KeytabRecord

abbrev pub content : KeytabRecord → List ℕ
content (an_entry e short after_key) = fields e short after_key
content (a_hole bytes) = bytes

-- the number in the four bytes of its length: a hole's is negative
abbrev pub stated : KeytabRecord → ℕ
stated (an_entry e short after_key) = length (fields e short after_key)
stated (a_hole bytes) = 2 ^ 32 - length bytes

abbrev pub record_bytes : KeytabRecord → List ℕ
record_bytes r = to_be_bytes w32 (stated r) ++ content r

abbrev pub records_bytes : List KeytabRecord → List ℕ
records_bytes rs = flat_map record_bytes rs

abbrev pub file_bytes : List KeytabRecord → List ℕ
file_bytes rs = 5 ∷ 2 ∷ records_bytes rs

abbrev pub entries_of : List KeytabRecord → List Entry
entries_of [] = []
entries_of (an_entry e short after_key ∷ rs) = e ∷ entries_of rs
entries_of (a_hole bytes ∷ rs) = entries_of rs

abbrev pub IsShort : List ℕ → Type 0
IsShort bytes = length bytes < 2 ^ 16

-- what can be written so: the kvno is the one that these fields give
pub record Fits (e : Entry) (short : ℕ) (after_key : List ℕ) : Type 0 where
  pub realm : IsShort e.realm
  pub count : length e.components < 2 ^ 16
  pub components : AllByRecursion IsShort e.components
  pub name_type : e.name_type < 2 ^ 32
  pub timestamp : e.timestamp < 2 ^ 32
  pub short_kvno : short < 2 ^ 8
  pub etype : FitsSigned w16 e.etype
  pub key : IsShort e.key
  pub kvno : kvno_of short (number_at w32 after_key) ≡ e.kvno
  pub size : length (fields e short after_key) < 2 ^ 31

-- a record that begins at this place
abbrev pub StandsAt : ℕ → KeytabRecord → Type 0
StandsAt place (an_entry e short after_key) = (e.place ≡ place) × Fits e short after_key
StandsAt place (a_hole bytes) = (0 < length bytes) × (length bytes < 2 ^ 31)

-- records that follow one another from this place on
abbrev pub StandFrom : ℕ → List KeytabRecord → Type 0
StandFrom place [] = Unit {0}
StandFrom place (r ∷ rs) = StandsAt place r × StandFrom (place + length (record_bytes r)) rs
