-- What the format promises.
use Rattle.std.specs.Prelude.{◌≡◌, ℕ, List, ◌++◌, length, true, Option, Some}
use Rattle.chpw_record.specs.declared.record.Record.{Record}
use Rattle.chpw_record.specs.Records.{IsRead, RecordFits, body_text, is_record_length, record_text}

-- whatever is read of a record's bytes is that record
abbrev pub ReadsBack : Type 0
ReadsBack = (r : Record) (found : Option Record) → RecordFits r → IsRead (body_text r) found → found ≡ Some r

-- no text begins with two records
abbrev pub IsOnlyRecord : Type 0
IsOnlyRecord = (r q : Record) (rest more : List ℕ) → RecordFits r → RecordFits q
    → record_text r ++ rest ≡ record_text q ++ more → (r ≡ q) × (rest ≡ more)

-- each length is allowed
abbrev pub LengthsAreAllowed : Type 0
LengthsAreAllowed = (r : Record) → RecordFits r → is_record_length (length (body_text r)) ≡ true
