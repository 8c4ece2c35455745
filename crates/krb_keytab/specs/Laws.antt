-- Laws of keytabs alone.
use Rattle.std.specs.Prelude.{◌≡◌, ℕ, ◌<◌, List, [], ◌∷◌, ◌++◌, length, Ok, Err, All, ◌⊎◌}
use Rattle.krb_keytab.specs.declared.fault.KeytabFault.TheVariants.{CutOff}
use Rattle.krb_keytab.specs.Entries.{Entry}
use Rattle.krb_keytab.specs.Keytabs.{keytab}
use Rattle.krb_keytab.specs.Written.{KeytabRecord, record_bytes, file_bytes, entries_of, StandsAt, StandFrom}

-- a file of records is read as their entries, holes or not
abbrev pub WholeIsRead : Type 0
WholeIsRead = (rs : List KeytabRecord) → StandFrom 2 rs → keytab (file_bytes rs) ≡ Ok (entries_of rs)

-- so is one with a length of zero after them, whatever follows that
abbrev pub EndedIsRead : Type 0
EndedIsRead = (rs : List KeytabRecord) (more : List ℕ) → StandFrom 2 rs
    → keytab (file_bytes rs ++ 0 ∷ 0 ∷ 0 ∷ 0 ∷ more) ≡ Ok (entries_of rs)

-- one that ends within a record is cut off at that record
abbrev pub CutIsTold : Type 0
CutIsTold = (rs : List KeytabRecord) (r : KeytabRecord) (front lost : List ℕ)
    → StandFrom 2 rs → StandsAt (length (file_bytes rs)) r → record_bytes r ≡ front ++ lost → 0 < length front → 0 < length lost
    → keytab (file_bytes rs ++ front) ≡ Err (CutOff (length (file_bytes rs)))

-- where a file ends, after its records: there is nothing more, or a length of zero
abbrev pub IsEnd : List ℕ → Type 0
IsEnd rest = (rest ≡ []) ⊎ ((more : List ℕ) × (rest ≡ 0 ∷ 0 ∷ 0 ∷ 0 ∷ more))

-- whatever is read is a file of records, and what is read are their entries
abbrev pub ReadIsWritten : Type 0
ReadIsWritten = (bytes : List ℕ) (es : List Entry) → All (λ b. b < 256) bytes → keytab bytes ≡ Ok es
    → (rs : List KeytabRecord) × (rest : List ℕ) × StandFrom 2 rs × (bytes ≡ file_bytes rs ++ rest) × IsEnd rest × (es ≡ entries_of rs)
