-- The greatest length of a value's text, from which a caller shows that a message fits.
use Rattle.std.specs.Prelude.{◌≡◌, ◌≤◌, ℕ, ◌+◌, true, List, [], ◌∷◌, length, Option, Some, None}
use Rattle.krb_codec.specs.Shapes.{Primitive, integer, sequence_number, octets, bits, time, Shape}
use Rattle.krb_codec.specs.Shapes.{primitive, tagged, many, further, nothing, field, option, Meaning, Value}
use Rattle.krb_codec.specs.Texts.{text, fits, is_in_range, longest_text}

-- the contents of a number have at most eight bytes
abbrev pub longest_content : (kind : Primitive) → Meaning kind → ℕ
longest_content (integer low high) n = 8
longest_content sequence_number n = 8
longest_content (octets tag) bytes = length bytes
longest_content bits n = 5
longest_content time t = 15

abbrev pub longest_each : {A : Type 0} → (A → ℕ) → List A → ℕ
longest_each longest [] = 0
longest_each longest (v ∷ vs) = longest v + longest_each longest vs

abbrev pub longest_optional : {A : Type 0} → (A → ℕ) → Option A → ℕ
longest_optional longest None = 0
longest_optional longest (Some v) = longest v

-- tag and length of an element have at most ten bytes
abbrev pub longest : (s : Shape) → Value s → ℕ
longest (primitive kind) v = 10 + longest_content kind v
longest (tagged tag s) v = 10 + longest s v
longest (many item) vs = longest_each (longest item) vs
longest (further low high) v = 0
longest nothing v = 0
longest (field first rest) v = longest first v.0 + longest rest v.1
longest (option tag first rest) v =
    longest_optional (λ w. 10 + longest first w) v.0 + longest rest v.1

abbrev pub TextsAreShort : Type 0
TextsAreShort = (s : Shape) (v : Value s) → length (text s v) ≤ longest s v

-- a value in its range fits if its text is short
abbrev pub ShortTextsFit : Type 0
ShortTextsFit = (s : Shape) (v : Value s)
    → is_in_range s v ≡ true → length (text s v) ≤ longest_text → fits s v ≡ true
