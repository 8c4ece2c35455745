-- A keytab (MIT Kerberos, keytab file format 0x0502): the bytes 05 02, then records, each after its length: 32 bits,
-- signed, high byte first.
use Rattle.std.specs.Prelude.{ℕ, zero, suc, ◌+◌, ◌-◌, ◌^◌, List, [], ◌∷◌, Bool, ◌||◌, ◌==◌, not, nat_lt}
use Rattle.std.specs.Prelude.{if◌then◌else◌, length, take, drop, Option, Some, None, Result, Ok, Err}
use Rattle.std.specs.Int.{from_be_bytes, w16, w32}
use Rattle.krb_keytab.specs.declared.fault.KeytabFault.{KeytabFault}
use Rattle.krb_keytab.specs.declared.fault.KeytabFault.TheVariants.{NotKeytab, CutOff, BadLength, BadEntry}
use Rattle.krb_keytab.specs.Entries.{Entry, entry_at}

-- a record, and what follows it
pub record Piece : Type 0 where
  pub is_entry : Bool
  pub bytes : List ℕ
  pub rest : List ℕ

-- the number in the four bytes of a length; from 2 ^ 31 on it means that number minus 2 ^ 32
abbrev pub length_at : List ℕ → ℕ
length_at bytes = from_be_bytes w32 (take 4 bytes)

abbrev pub is_positive : ℕ → Bool
is_positive n = nat_lt n (2 ^ 31)

-- how many bytes an entry or a hole of this length has
abbrev pub size_of : ℕ → ℕ
size_of n = if is_positive n then n else 2 ^ 32 - n

-- the next record; none where the file ends: there is nothing more, or a length of zero
unfoldable pub record_at : ℕ → List ℕ → Result (Option Piece) KeytabFault
record_at place bytes =
    let n = length_at bytes in
    let behind = drop 4 bytes in
    if length bytes == 0 then Ok None
    else if nat_lt (length bytes) 4 then Err (CutOff place)
    else if n == 0 then Ok None
    else if n == 2 ^ 31 then Err (BadLength place)
    else if nat_lt (length behind) (size_of n) then Err (CutOff place)
    else Ok (Some (record { is_entry = is_positive n; bytes = take (size_of n) behind; rest = drop (size_of n) behind }))

-- a step, and the steps after it where it has no fault
infixl 10 ◌>>=◌
abbrev pub ◌>>=◌ : {A B : Type 0} → Result A KeytabFault → (A → Result B KeytabFault) → Result B KeytabFault
(Ok a) >>= next = next a
(Err fault) >>= next = Err fault

-- the entry of a record, or the fault that a field ends after the record
abbrev pub or_bad : ℕ → Option Entry → Result Entry KeytabFault
or_bad place None = Err (BadEntry place)
or_bad place (Some e) = Ok e

-- the entries from a record on, where others reads those after it
abbrev pub entries_from : (ℕ → List ℕ → Result (List Entry) KeytabFault) → ℕ → Option Piece → Result (List Entry) KeytabFault
entries_from others place None = Ok []
entries_from others place (Some piece) =
    let behind = place + (4 + length piece.bytes) in
    if piece.is_entry
    then (or_bad place (entry_at place piece.bytes) >>= λ first. others behind piece.rest >>= λ more. Ok (first ∷ more))
    else others behind piece.rest

-- The entries of the records from a place on. Each record takes four bytes, so that the number of bytes is enough as
-- budget.
abbrev pub from_place : ℕ → ℕ → List ℕ → Result (List Entry) KeytabFault
from_place zero place bytes = Ok []
from_place (suc budget) place bytes = do
  next ← record_at place bytes
  entries_from (from_place budget) place next

-- the entries of a file, or its first fault
abbrev pub keytab : List ℕ → Result (List Entry) KeytabFault
keytab bytes =
    if nat_lt (length bytes) 2 || not (from_be_bytes w16 (take 2 bytes) == 0x0502) then Err NotKeytab
    else from_place (length bytes) 2 (drop 2 bytes)
