-- Fields that are read and put one after the other, whatever follows them.
use Rattle.std.specs.Prelude.{◌≡◌, Bool, Result, Ok, Err}
use Rattle.krb_codec.specs.declared.fault.ReadError.{ReadError}
use Rattle.krb_codec.specs.Faults.{◌>>=◌}
use Rattle.krb_codec.specs.Shapes.{Shape, Value}
use Rattle.krb_codec.specs.Reading.{Fails, Input, reads}
use Rattle.krb_codec.specs.Sinks.{Puts}

-- Fields in front of others take a region from one place to the next: what is read from the first
-- place is what is read from the second, with their value in front.
abbrev pub Takes : (before : Shape → Shape) → ((rest : Shape) → Value rest → Value (before rest)) → Input → Input → Type 0
Takes before front old new =
    (rest : Shape) → reads (before rest) old ≡ (reads rest new >>= λ y. Ok (front rest y.0, y.1))

-- what a function that reads such fields returned: their value or the fault, whatever follows
abbrev pub GivesFields : {X : Type 0} (before : Shape → Shape)
    → ((rest : Shape) → X → Value rest → Value (before rest)) → Result X ReadError → Input → Input → Type 0
GivesFields before value (Ok x) old new = Takes before (λ rest y. value rest x y) old new
GivesFields before value (Err e) old new = (rest : Shape) → Fails e (reads (before rest) old)

-- what a function that puts such fields into a sink did, whatever follows
abbrev pub PutsFields : {S X E : Type 0} → Bool → Result X E → ((s : Shape) → S → Value s → S)
    → (before : Shape → Shape) → ((rest : Shape) → Value rest → Value (before rest)) → S → S → Type 0
PutsFields can_fail result put before front old new =
    Puts can_fail result ((rest : Shape) (y : Value rest) → put (before rest) old (front rest y) ≡ put rest new y)
