-- Reading from left to right, with the first fault and its place.
use Rattle.std.specs.Prelude.{◌≡◌, ℕ, zero, suc, ◌+◌, ◌-◌, Bool, false, ◌&&◌, ◌||◌, List, [], ◌∷◌, length, take}
use Rattle.std.specs.Prelude.{drop, Option, Some, None, Result, Ok, Err, nat_lt, nat_le, ◌==◌, if◌then◌else◌}
use Rattle.krb_codec.specs.declared.fault.FaultKind.TheVariants.{Truncated, WrongTag, BadLength, Trailing}
use Rattle.krb_codec.specs.declared.fault.DerFault.{DerFault}
use Rattle.krb_codec.specs.declared.fault.ReadError.{ReadError}
use Rattle.krb_codec.specs.declared.fault.ReadError.TheVariants as errors
use Rattle.krb_codec.specs.Faults.{fault, ◌>>=◌}
use Rattle.krb_codec.specs.Integers.{number, integer_in, sequence_number_in}
use Rattle.krb_codec.specs.BitStrings.{bits_in}
use Rattle.krb_codec.specs.Times.{time_in}
use Rattle.krb_codec.specs.Shapes.{Primitive, integer, sequence_number, octets, bits, time, Shape, primitive}
use Rattle.krb_codec.specs.Shapes.{tagged, many, further, nothing, field, option, Meaning, Value, tag_of}

-- What a function returned, seen by view, is what reading gives, unless memory ran out.
abbrev pub Fails : {Y : Type 0} → ReadError → Result Y DerFault → Type 0
Fails errors.Memory read = Unit {0}
Fails (errors.Fault f) read = read ≡ Err f

abbrev pub Gives : {X Y : Type 0} → (X → Y) → Result X ReadError → Result Y DerFault → Type 0
Gives view (Ok x) read = read ≡ Ok (view x)
Gives view (Err e) read = Fails e read

-- what is left of a region, and its offset from the text's start
pub record Input : Type 0 where
  pub place : ℕ
  pub left : List ℕ

abbrev pub starts : ℕ → List ℕ → Bool
starts tag [] = false
starts tag (b ∷ bytes) = b == tag

-- a length, and the bytes after it
unfoldable pub length_at : ℕ → List ℕ → Result (ℕ × List ℕ) DerFault
length_at place [] = fault place Truncated
length_at place (b ∷ bytes) =
    if nat_lt b 128 then Ok (b, bytes)
    else if b == 128 || nat_lt 132 b then fault place BadLength
    else if nat_lt (length bytes) (b - 128) then fault place Truncated
    else if starts 0 (take (b - 128) bytes) || nat_lt (number (take (b - 128) bytes)) 128
    then fault place BadLength
    else Ok (number (take (b - 128) bytes), drop (b - 128) bytes)

-- an element's contents, and what follows it
pub record Piece : Type 0 where
  pub content : Input
  pub after : Input

-- contents of this length, from a place on
abbrev pub piece_of : ℕ → ℕ → List ℕ → Piece
piece_of start n bytes = record {
  content = record { place = start; left = take n bytes };
  after = record { place = start + n; left = drop n bytes };
}

unfoldable pub tag_at : ℕ → Input → Result (List ℕ) DerFault
tag_at tag input = elim input.left [
  | [] ↦ fault input.place Truncated
  | b ∷ bytes ↦ if b == tag then Ok bytes else fault input.place WrongTag
]

-- a tag, a length, and contents that end within the region; each fault is at the element's start
unfoldable pub element_at : ℕ → Input → Result Piece DerFault
element_at tag input = do
  bytes ← tag_at tag input
  n ← length_at input.place bytes
  (if nat_lt (length n.1) n.0 then fault input.place Truncated else Ok (piece_of (input.place + (length input.left - length n.1)) n.0 n.1))

-- what contents mean, of an element that starts at a place
abbrev pub meaning_of : (kind : Primitive) → ℕ → List ℕ → Result (Meaning kind) DerFault
meaning_of (integer low high) place content = integer_in low high place content
meaning_of sequence_number place content = sequence_number_in place content
meaning_of (octets tag) place content = Ok content
meaning_of bits place content = bits_in place content
meaning_of time place content = time_in place content

-- nothing may be left in a region
abbrev pub ended : Input → Result (Unit {0}) DerFault
ended input = if length input.left == 0 then Ok tt else fault input.place Trailing

-- Elements up to the end. Each takes a byte, so that the region's length is enough as budget.
abbrev pub reads_each : {A : Type 0} → (Input → Result (A × Input) DerFault) → ℕ → Input → Result (List A × Input) DerFault
reads_each read zero input = Ok ([], input)
reads_each read (suc budget) input =
    if length input.left == 0 then Ok ([], input)
    else (read input >>= λ x. reads_each read budget x.1 >>= λ xs. Ok (x.0 ∷ xs.0, xs.1))

-- the tag that is next, or 0
abbrev pub first_of : List ℕ → ℕ
first_of [] = 0
first_of (b ∷ bytes) = b

abbrev pub starts_between : ℕ → ℕ → List ℕ → Bool
starts_between low high [] = false
starts_between low high (b ∷ bytes) = nat_le low b && nat_le b high

-- elements as long as their tags are from low to high; the budget as above
abbrev pub reads_further : ℕ → ℕ → ℕ → Input → Result (Unit {0} × Input) DerFault
reads_further low high zero input = Ok (tt, input)
reads_further low high (suc budget) input =
    if starts_between low high input.left
    then (element_at (first_of input.left) input >>= λ e. reads_further low high budget e.after)
    else Ok (tt, input)

-- an element with that tag, or none
abbrev pub reads_optional : {A : Type 0} → ℕ → (Input → Result (A × Input) DerFault) → Input → Result (Option A × Input) DerFault
reads_optional tag read input =
    if starts tag input.left then (read input >>= λ x. Ok (Some x.0, x.1)) else Ok (None, input)

unfoldable pub reads : (s : Shape) → Input → Result (Value s × Input) DerFault
reads (primitive kind) input = do
  e ← element_at (tag_of kind) input
  v ← meaning_of kind input.place e.content.left
  Ok (v, e.after)
reads (tagged tag content) input = do
  e ← element_at tag input
  x ← reads content e.content
  _ ← ended x.1
  Ok (x.0, e.after)
reads (many item) input = reads_each (reads item) (length input.left) input
reads (further low high) input = reads_further low high (length input.left) input
reads nothing input = Ok (tt, input)
reads (field first rest) input = do
  x ← reads first input
  y ← reads rest x.1
  Ok ((x.0, y.0), y.1)
reads (option tag first rest) input = do
  x ← reads_optional tag (λ i. element_at tag i >>= λ e. reads first e.content >>= λ x. ended x.1 >>= λ _. Ok (x.0, e.after)) input
  y ← reads rest x.1
  Ok ((x.0, y.0), y.1)

-- the whole of a text
unfoldable pub reads_all : (s : Shape) → List ℕ → Result (Value s) DerFault
reads_all s bytes = do
  x ← reads s (record { place = 0; left = bytes })
  _ ← ended x.1
  Ok x.0
