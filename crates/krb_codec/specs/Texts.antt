-- The one text that is written for a value (X.690 sections 8.1, 10.1), and which values have one.
use Rattle.std.specs.Prelude.{ℕ, ◌+◌, Bool, true, ◌&&◌, ◌==◌, List, [], ◌∷◌, ◌++◌, length, Option, Some, None, nat_lt, nat_le, if◌then◌else◌, is_some}
use Rattle.std.specs.List.{flat_map}
use Rattle.std.specs.Int.{w64, to_be_bytes}
use Rattle.krb_codec.specs.Integers.{integer_octets, sequence_number_octets}
use Rattle.krb_codec.specs.BitStrings.{bits_octets}
use Rattle.krb_codec.specs.Times.{time_of}
use Rattle.krb_codec.specs.Shapes.{Primitive, integer, sequence_number, octets, bits, time, Shape, primitive, tagged}
use Rattle.krb_codec.specs.Shapes.{many, further, nothing, field, option, Meaning, Value, is_between, tag_of}

abbrev pub without_zeros : List ℕ → List ℕ
without_zeros [] = []
without_zeros (b ∷ bytes) = if b == 0 then without_zeros bytes else b ∷ bytes

-- the shortest form of a length
unfoldable pub length_octets : ℕ → List ℕ
length_octets n =
    if nat_lt n 128 then n ∷ []
    else (128 + length (without_zeros (to_be_bytes w64 n))) ∷ without_zeros (to_be_bytes w64 n)

-- a tag, the length of the contents, the contents
unfoldable pub element : ℕ → List ℕ → List ℕ
element tag content = tag ∷ length_octets (length content) ++ content

-- the text of a time; nothing outside the years 0 to 9999
abbrev pub time_content : Option (List ℕ) → List ℕ
time_content None = []
time_content (Some text) = text

abbrev pub content_of : (kind : Primitive) → Meaning kind → List ℕ
content_of (integer low high) n = integer_octets n
content_of sequence_number n = sequence_number_octets n
content_of (octets tag) bytes = bytes
content_of bits n = bits_octets n
content_of time t = time_content (time_of t)

abbrev pub optional_text : {A : Type 0} → (A → List ℕ) → Option A → List ℕ
optional_text text None = []
optional_text text (Some v) = text v

-- fields in turn; no further elements are written
abbrev pub text : (s : Shape) → Value s → List ℕ
text (primitive kind) v = element (tag_of kind) (content_of kind v)
text (tagged tag s) v = element tag (text s v)
text (many item) vs = flat_map (text item) vs
text (further low high) v = []
text nothing v = []
text (field first rest) v = text first v.0 ++ text rest v.1
text (option tag first rest) v =
    optional_text (λ w. element tag (text first w)) v.0 ++ text rest v.1

-- ---- which values have a text

-- a time is in the years 0 to 9999 where it has a text
abbrev pub is_meaning_in_range : (kind : Primitive) → Meaning kind → Bool
is_meaning_in_range (integer low high) n = is_between low high n
is_meaning_in_range sequence_number n = nat_lt n 4294967296
is_meaning_in_range (octets tag) bytes = true
is_meaning_in_range bits n = nat_lt n 4294967296
is_meaning_in_range time t = is_some (time_of t)

abbrev pub each_is : {A : Type 0} → (A → Bool) → List A → Bool
each_is test [] = true
each_is test (v ∷ vs) = test v && each_is test vs

abbrev pub optional_is : {A : Type 0} → (A → Bool) → Option A → Bool
optional_is test None = true
optional_is test (Some v) = test v

abbrev pub is_in_range : (s : Shape) → Value s → Bool
is_in_range (primitive kind) v = is_meaning_in_range kind v
is_in_range (tagged tag s) v = is_in_range s v
is_in_range (many item) vs = each_is (is_in_range item) vs
is_in_range (further low high) v = true
is_in_range nothing v = true
is_in_range (field first rest) v = is_in_range first v.0 && is_in_range rest v.1
is_in_range (option tag first rest) v = optional_is (is_in_range first) v.0 && is_in_range rest v.1

-- the longest message (RFC 3244 section 2 has two bytes for its length)
abbrev pub longest_text : ℕ
longest_text = 65535

-- whether a value can be written
unfoldable pub fits : (s : Shape) → Value s → Bool
fits s v = is_in_range s v && nat_le (length (text s v)) longest_text

-- the length of the text, of a value that can be written
abbrev pub text_length : (s : Shape) → Value s → Option ℕ
text_length s v = if fits s v then Some (length (text s v)) else None
