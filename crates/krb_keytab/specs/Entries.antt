-- The entry of a record (MIT Kerberos, keytab file format 0x0502): its fields come one after the
-- other, each number high byte first.
use Rattle.std.specs.Prelude.{ℕ, ℤ, zero, suc, List, [], ◌∷◌, ◌==◌, nat_lt, if◌then◌else◌, length, take, drop, Option, Some, None}
use Rattle.std.specs.Int.{Width, w8, w16, w32, byte_len, cast_signed, from_be_bytes}

-- an entry by its values; its record begins at that place of the file
pub record Entry : Type 0 where
  pub place : ℕ
  pub realm : List ℕ
  pub components : List (List ℕ)
  pub name_type : ℕ
  pub timestamp : ℕ
  pub kvno : ℕ
  pub etype : ℤ
  pub key : List ℕ

-- a field, and then those after it if it is present
infixl 10 ◌>>=◌
abbrev pub ◌>>=◌ : {A B : Type 0} → Option A → (A → Option B) → Option B
(Some field) >>= next = next field
None >>= next = None

-- a number at the front, and what follows it
unfoldable pub number_at : Width → List ℕ → Option (ℕ × List ℕ)
number_at w bytes =
    if nat_lt (length bytes) (byte_len w) then None
    else Some (from_be_bytes w (take (byte_len w) bytes), drop (byte_len w) bytes)

-- bytes after their count in 16 bits
unfoldable pub counted_at : List ℕ → Option (List ℕ × List ℕ)
counted_at bytes = do
  count ← number_at w16 bytes
  (if nat_lt (length count.1) count.0 then None else Some (take count.0 count.1, drop count.0 count.1))

-- this many components
unfoldable pub components_at : ℕ → List ℕ → Option (List (List ℕ) × List ℕ)
components_at zero bytes = Some ([], bytes)
components_at (suc count) bytes = do
  first ← counted_at bytes
  others ← components_at count first.1
  Some (first.0 ∷ others.0, others.1)

-- the kvno in 32 bits replaces the one in 8 if it is present and not zero
abbrev pub kvno_of : ℕ → Option (ℕ × List ℕ) → ℕ
kvno_of short None = short
kvno_of short (Some long) = if long.0 == 0 then short else long.0

-- The entry in the bytes of the record at this place, if no field ends after them. The encryption type is a signed
-- number (Int32 of RFC 4120 section 5.2.9): from 2 ^ 15 on the number minus 2 ^ 16.
unfoldable pub entry_at : ℕ → List ℕ → Option Entry
entry_at place bytes = do
  count ← number_at w16 bytes
  realm ← counted_at count.1
  components ← components_at count.0 realm.1
  name_type ← number_at w32 components.1
  timestamp ← number_at w32 name_type.1
  short ← number_at w8 timestamp.1
  etype ← number_at w16 short.1
  key ← counted_at etype.1
  Some (record {
    place = place;
    realm = realm.0;
    components = components.0;
    name_type = name_type.0;
    timestamp = timestamp.0;
    kvno = kvno_of short.0 (number_at w32 key.1);
    etype = cast_signed w16 etype.0;
    key = key.0;
  })
