-- The text of a value is no longer than its sum; numbers in a range.
use Rattle.std.proofs.Common.{◌≡◌, ℕ, ◌+◌, ◌≤◌, true, List, [], ◌∷◌, Option, Some, None, ap, arith, length}
use Rattle.std.proofs.Common.{length-append, not, eqb, ltb, inl, inr, ℤ, pos, negsuc, ◌<◌, ◌≤ℤ◌, w64}
use Rattle.std.specs.Prelude.{int_lt, is_some}
use Rattle.std.proofs.lemmas.Int.{ints, by_lt_z}
use Rattle.std.specs.Int.{cast_unsigned, to_be_bytes}
use Rattle.std.specs.List.{flat_map}
use Rattle.std.proofs.lemmas.Bool.{le-leb}
use Rattle.std.proofs.lemmas.List.Concat.{flat_map-cons}
use Rattle.krb_codec.specs.Shapes.{Primitive, integer, sequence_number, octets, bits, time, primitive}
use Rattle.krb_codec.specs.Shapes.{tagged, many, further, nothing, field, option, kerberos_time}
use Rattle.krb_codec.specs.Shapes.{microseconds, Meaning, Shape, Value, is_between, tag_of}
use Rattle.krb_codec.specs.Integers.{integer_octets, repeats_sign, without_sign}
use Rattle.krb_codec.specs.BitStrings.{bits_octets}
use Rattle.krb_codec.specs.Times.{is_writable, time_octets, time_of}
use Rattle.krb_codec.specs.Texts.{content_of, element, fits, is_in_range, length_octets, longest_text, optional_text, text, time_content, without_zeros}
use Rattle.krb_codec.proofs.CompleteLemmas.{and_both, same_or_not}
use Rattle.krb_codec.proofs.TimeLemmas.{time_of_some}
use Rattle.krb_msgs.specs.Lengths.{ShortTextsFit, TextsAreShort, longest, longest_content, longest_each, longest_optional}

pub short-without_zeros : (bytes : List ℕ) → length (without_zeros bytes) ≤ length bytes
short-without_zeros [] = omega arith
short-without_zeros (b ∷ bytes) = elim (same_or_not (eqb b 0)) [
  | inl e ↦ let less = short-without_zeros bytes in rw e (omega (arith, less))
  | inr e ↦ rw e (omega arith)
]

short-length_octets : (n : ℕ) → length (length_octets n) ≤ 9
unfolding length_octets
short-length_octets n =
    let less = short-without_zeros (to_be_bytes w64 n) in
    elim (same_or_not (ltb n 128)) [ inl e ↦ rw e (omega arith) | inr e ↦ rw e (omega (arith, less)) ]

-- an element's tag and length
pub short_element : (tag : ℕ) (content : List ℕ) → length (element tag content) ≤ 10 + length content
unfolding element
short_element tag content =
    omega (arith, short-length_octets (length content), length-append (length_octets (length content)) content)

short-without_sign : (bytes : List ℕ) → length (without_sign bytes) ≤ length bytes
short-without_sign [] = omega arith
short-without_sign (a ∷ bytes) = elim (same_or_not (repeats_sign a bytes)) [
  | inl e ↦ let less = short-without_sign bytes in rw e (omega (arith, less))
  | inr e ↦ rw e (omega arith)
]

short_time : (t : Meaning time) → length (time_content (time_of t)) ≤ 15
unfolding time_of time_octets
short_time t = elim (same_or_not (is_writable t)) [ inl e ↦ rw e (omega arith) | inr e ↦ rw e (omega arith) ]

short_content : (kind : Primitive) (v : Meaning kind) → length (content_of kind v) ≤ longest_content kind v
unfolding integer_octets bits_octets
short_content (integer low high) n = short-without_sign (to_be_bytes w64 (cast_unsigned w64 n))
short_content sequence_number n = short-without_sign (to_be_bytes w64 (cast_unsigned w64 (pos n)))
short_content (octets tag) bytes = omega arith
short_content bits n = omega arith
short_content time t = short_time t

short_each : {A : Type 0} (text_of : A → List ℕ) (most : A → ℕ) → ((v : A) → length (text_of v) ≤ most v)
    → (vs : List A) → length (flat_map text_of vs) ≤ longest_each most vs
short_each text_of most short [] = omega arith
short_each text_of most short (v ∷ vs) =
    omega (arith, ap length (flat_map-cons text_of v vs), length-append (text_of v) (flat_map text_of vs), short v, short_each text_of most short vs)

short_optional : {A : Type 0} (text_of : A → List ℕ) (most : A → ℕ) → ((v : A) → length (text_of v) ≤ most v)
    → (v : Option A) → length (optional_text text_of v) ≤ longest_optional most v
short_optional text_of most short None = omega arith
short_optional text_of most short (Some v) = short v

short_tagged : (tag : ℕ) (content : List ℕ) (n : ℕ) → length content ≤ n → length (element tag content) ≤ 10 + n
short_tagged tag content n le = omega (arith, short_element tag content)

pub texts_are_short : TextsAreShort
texts_are_short (primitive kind) v = short_tagged (tag_of kind) (content_of kind v) (longest_content kind v) (short_content kind v)
texts_are_short (tagged tag s) v = short_tagged tag (text s v) (longest s v) (texts_are_short s v)
texts_are_short (many item) vs = short_each (text item) (longest item) (texts_are_short item) vs
texts_are_short (further low high) v = omega arith
texts_are_short nothing v = omega arith
texts_are_short (field first rest) v =
    omega (arith, length-append (text first v.0) (text rest v.1), texts_are_short first v.0, texts_are_short rest v.1)
texts_are_short (option tag first rest) v =
    let one = short_optional (λ w. element tag (text first w)) (λ w. 10 + longest first w)
    (λ w. short_tagged tag (text first w) (longest first w) (texts_are_short first w)) v.0 in
    omega (arith, length-append (optional_text (λ w. element tag (text first w)) v.0) (text rest v.1), one, texts_are_short rest v.1)

pub short_texts_fit : ShortTextsFit
unfolding fits
short_texts_fit s v range le = and_both range (le-leb _ _ le)

pub fit : (s : Shape) (v : Value s) → is_in_range s v ≡ true → longest s v ≤ longest_text → fits s v ≡ true
fit s v range le = let short = texts_are_short s v in short_texts_fit s v range (omega (arith, short, le))

-- ---- numbers in a range

not_less : (a b : ℤ) → b ≤ℤ a → not (int_lt a b) ≡ true
not_less a b le = by_lt_z a b (λ lt. absurd (omega (arith, ints))) (λ _. grind (arith, ints))

pub between : (low high n : ℤ) → low ≤ℤ n → n ≤ℤ high → is_between low high n ≡ true
between low high n le ge = and_both (not_less n low le) (not_less high n ge)

pub time_range : (t : ℤ) → negsuc 62167219199 ≤ℤ t → t ≤ℤ pos 253402300799 → is_in_range kerberos_time t ≡ true
time_range t low high = ap is_some (time_of_some t (low, high))

pub micros_range : (n : ℕ) → n < 1000000 → is_in_range microseconds (pos n) ≡ true
micros_range n lt =
    let low : pos 0 ≤ℤ pos n = omega (arith, ints) in
    let high : pos n ≤ℤ pos 999999 = omega (arith, ints, lt) in
    between (pos 0) (pos 999999) (pos n) low high
