-- What a sink holds after a value was put into it, whatever it keeps of the value's text.
use Rattle.std.specs.Prelude.{◌≡◌, ◌≤◌, ℕ, ◌+◌, ◌-◌, Bool, true, List, [], ◌∷◌, length, ◌++◌, take}
use Rattle.std.specs.Prelude.{drop, Option, Some, None, Result, Ok, Err, nat_le, if◌then◌else◌}
use Rattle.krb_codec.specs.Shapes.{Shape, primitive, tagged, many, further, nothing, field, option, Value, tag_of}
use Rattle.krb_codec.specs.Texts.{element, length_octets, content_of, is_meaning_in_range, longest_text}

-- what holds after a value was put, unless memory ran out where it can
abbrev pub Puts : {X E : Type 0} → Bool → Result X E → Type 0 → Type 0
Puts can_fail (Ok x) fact = fact
Puts can_fail (Err e) fact = can_fail ≡ true

abbrev pub puts_optional : {S A : Type 0} → (S → A → S) → S → Option A → S
puts_optional put sink None = sink
puts_optional put sink (Some v) = put sink v

abbrev pub puts_each : {S A : Type 0} → (S → A → S) → S → List A → S
puts_each put sink [] = sink
puts_each put sink (v ∷ vs) = puts_each put (put sink v) vs

-- A sink takes an element whose contents are given and may be out of range, answers the offset that it has reached, and
-- makes all that it took from an offset on the contents of an element.
unfoldable pub puts : {S : Type 0} → (S → ℕ → List ℕ → Bool → S) → (S → ℕ) → (S → ℕ → ℕ → S) → (s : Shape) → S → Value s → S
puts put place enclose (primitive kind) sink v =
    put sink (tag_of kind) (content_of kind v) (is_meaning_in_range kind v)
puts put place enclose (tagged tag s) sink v =
    enclose (puts put place enclose s sink v) (place sink) tag
puts put place enclose (many item) sink vs = puts_each (puts put place enclose item) sink vs
puts put place enclose (further low high) sink v = sink
puts put place enclose nothing sink v = sink
puts put place enclose (field first rest) sink v =
    puts put place enclose rest (puts put place enclose first sink v.0) v.1
puts put place enclose (option tag first rest) sink v =
    puts put place enclose rest (puts_optional (λ i w. enclose (puts put place enclose first i w) (place i) tag) sink v.0) v.1

-- ---- the text itself

abbrev pub text_put : List ℕ → ℕ → List ℕ → Bool → List ℕ
text_put front tag content in_range = front ++ element tag content

abbrev pub text_place : List ℕ → ℕ
text_place front = length front

abbrev pub text_enclose : List ℕ → ℕ → ℕ → List ℕ
text_enclose bytes place tag = take place bytes ++ element tag (drop place bytes)

-- ---- its length, or none where it is too long or a value out of range

abbrev pub element_length : ℕ → ℕ
element_length n = 1 + length (length_octets n) + n

abbrev pub allowed : ℕ → Option ℕ
allowed n = if nat_le n longest_text then Some n else None

abbrev pub IsAllowed : Option ℕ → Type 0
IsAllowed None = Unit {0}
IsAllowed (Some n) = n ≤ longest_text

abbrev pub length_put : Option ℕ → ℕ → List ℕ → Bool → Option ℕ
length_put None tag content in_range = None
length_put (Some n) tag content in_range =
    if in_range then allowed (n + element_length (length content)) else None

abbrev pub length_place : Option ℕ → ℕ
length_place None = 0
length_place (Some n) = n

abbrev pub length_enclose : Option ℕ → ℕ → ℕ → Option ℕ
length_enclose None place tag = None
length_enclose (Some n) place tag = allowed (place + element_length (n - place))
