-- The journal's format, format 4: records one after the other, with no header. Numbers stand high byte
-- first. A record is its length, two bytes, and then a principal's key or a raise. A key: its kind, kvno and
-- iteration count, four bytes each, the keys of etype 17 and 18, and the name: how many components, and each
-- after its length, one byte. Its kind is 1 of a change, 3 of a base, 4 where it was adopted from the KDC, 5
-- where the KDC has lifted its kvno, and 6 where the KDC has its principal no more. A raise: kind 2 and the
-- iteration count, four bytes. Format 1 had changes alone, format 2 changes and raises, and format 3 bases too.
use Rattle.std.specs.Prelude.{◌≡◌, ◌≢◌, ℕ, List, [], ◌∷◌, ◌++◌, length, take, Bool, true, ◌||◌, ◌==◌, Option, Some, None, MatchOption, if◌then◌else◌}
use Rattle.std.specs.Int.{from_be_bytes, to_be_bytes, w16, w32}
use Rattle.std.specs.List.{flat_map}
use Rattle.chpw_rules.specs.declared.limits.Limits.{Limits}
use Rattle.chpw_rules.specs.declared.name.Name.{Name}
use Rattle.chpw_rules.specs.Limits.{range, is_in, kvnos, iteration_counts, aes128_length, aes256_length}
use Rattle.chpw_rules.specs.Names.{is_name}
use Rattle.chpw_record.specs.declared.key.KeyRow.{KeyRow}
use Rattle.chpw_record.specs.declared.record.PrincipalKey.{PrincipalKey}
use Rattle.chpw_record.specs.declared.record.KeyKind.{KeyKind}
use Rattle.chpw_record.specs.declared.record.KeyKind.TheVariants as kind
use Rattle.chpw_record.specs.declared.record.Record.{Record}
use Rattle.chpw_record.specs.declared.record.Record.TheVariants as record_of

-- ---- a name and its key

-- a component after its length
abbrev pub part_bytes : List ℕ → List ℕ
part_bytes part = length part ∷ part

-- how many components, and then each
abbrev pub name_bytes : Name → List ℕ
name_bytes name = length name.parts ∷ flat_map part_bytes name.parts

-- kind, kvno, iteration count and both keys
abbrev pub version_bytes : ℕ → KeyRow → List ℕ
version_bytes kind k = kind ∷ (to_be_bytes w32 k.kvno ++ to_be_bytes w32 k.count ++ k.aes128 ++ k.aes256)

-- those, and then the name
abbrev pub key_text : ℕ → Name → KeyRow → List ℕ
key_text kind name k = version_bytes kind k ++ name_bytes name

-- within the limits: 1 to 8 components of 1 to 128 bytes, kvno and iteration count in range, keys of 16 and 32 bytes
pub record ChangeFits (c : PrincipalKey) : Type 0 where
  pub name : is_name c.name ≡ true
  pub kvno : is_in kvnos c.key.kvno ≡ true
  pub count : is_in iteration_counts c.key.count ≡ true
  pub aes128 : length c.key.aes128 ≡ aes128_length
  pub aes256 : length c.key.aes256 ≡ aes256_length

-- ---- kinds

abbrev pub kind_number : KeyKind → ℕ
kind_number kind.Change = 1
kind_number kind.Base = 3
kind_number kind.Adopt = 4
kind_number kind.Lift = 5
kind_number kind.Remove = 6

-- the kind with this number, if there is one
abbrev pub kind_with : ℕ → Option KeyKind
kind_with n =
    if n == 1 then Some kind.Change
    else if n == 3 then Some kind.Base
    else if n == 4 then Some kind.Adopt
    else if n == 5 then Some kind.Lift
    else if n == 6 then Some kind.Remove
    else None

-- ---- records

-- a text after its length
abbrev pub framed : List ℕ → List ℕ
framed body = to_be_bytes w16 (length body) ++ body

abbrev pub record_bytes : Name → KeyRow → List ℕ
record_bytes name k = framed (key_text 1 name k)

-- the length, two bytes with the number 5, and then the kind and the count
abbrev pub raise_bytes : ℕ → List ℕ
raise_bytes count = 0 ∷ 5 ∷ 2 ∷ to_be_bytes w32 count

abbrev pub key_bytes : KeyKind → Name → KeyRow → List ℕ
key_bytes kind name k = framed (key_text (kind_number kind) name k)

-- a record's text, after its length
abbrev pub body_text : Record → List ℕ
body_text (record_of.Key kind c) = key_text (kind_number kind) c.name c.key
body_text (record_of.Raise count) = 2 ∷ to_be_bytes w32 count

-- its whole text
abbrev pub record_text : Record → List ℕ
record_text (record_of.Key kind c) = key_bytes kind c.name c.key
record_text (record_of.Raise count) = raise_bytes count

-- the texts of records, joined
abbrev pub records_text : List Record → List ℕ
records_text [] = []
records_text (r ∷ rs) = record_text r ++ records_text rs

-- a record within the limits
abbrev pub RecordFits : Record → Type 0
RecordFits (record_of.Key kind c) = ChangeFits c
RecordFits (record_of.Raise count) = is_in iteration_counts count ≡ true

-- what is read: the record within the limits that has this text, or none where there is no such record
abbrev pub IsRead : List ℕ → Option Record → Type 0
IsRead body found = MatchOption found ((r : Record) → RecordFits r → body ≢ body_text r) (λ (r : Record). RecordFits r × (body ≡ body_text r))

-- ---- lengths

-- the length that a text's first record states, in its first two bytes
abbrev pub stated_length : List ℕ → ℕ
stated_length text = from_be_bytes w16 (take 2 text)

-- the lengths of keys' records: 58 bytes, and 1 to 8 components of 1 to 128 bytes, each after its length
abbrev pub key_lengths : Limits
key_lengths = range 60 1090

-- a record may have this length: 5 of a raise, or that of a key's
abbrev pub is_record_length : ℕ → Bool
is_record_length n = (n == 5) || is_in key_lengths n
