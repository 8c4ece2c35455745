-- How long a text of less than 65,536 bytes is: tag and length of each element have at most four.
use Rattle.std.proofs.Common.{◌≡◌, ℕ, ◌+◌, ◌≤◌, ◌<◌, true, List, [], ◌∷◌, length, Option, Some, None, ap, arith, length-append}
use Rattle.std.specs.List.{flat_map}
use Rattle.std.proofs.lemmas.List.Concat.{flat_map-cons}
use Rattle.krb_codec.specs.Shapes.{Primitive, integer, sequence_number, octets, bits, time, Shape}
use Rattle.krb_codec.specs.Shapes.{primitive, tagged, many, further, nothing, field, option, Meaning, Value}
use Rattle.krb_codec.specs.Grammar.{IsLength}
use Rattle.krb_codec.specs.Texts.{element, fits, is_in_range, length_octets, longest_text, optional_text, text}
use Rattle.krb_codec.proofs.TextLemmas.{length_spelled}
use Rattle.krb_msgs.specs.Lengths.{longest_each, longest_optional}
use Rattle.krb_msgs.proofs.LengthLemmas.{short_texts_fit, texts_are_short}

-- a number's element has at most 25 bytes
abbrev closest_element : (kind : Primitive) → Meaning kind → ℕ
closest_element (integer low high) n = 18
closest_element sequence_number n = 18
closest_element (octets tag) bytes = 4 + length bytes
closest_element bits n = 15
closest_element time t = 25

abbrev pub closest : (s : Shape) → Value s → ℕ
closest (primitive kind) v = closest_element kind v
closest (tagged tag s) v = 4 + closest s v
closest (many item) vs = longest_each (closest item) vs
closest (further low high) v = 0
closest nothing v = 0
closest (field first rest) v = closest first v.0 + closest rest v.1
closest (option tag first rest) v =
    longest_optional (λ w. 4 + closest first w) v.0 + closest rest v.1

close_length : (octets : List ℕ) (n : ℕ) → IsLength octets n → n < 65536 → length octets ≤ 3
close_length [] n h lt = absurd h
close_length (b ∷ []) n h lt = omega arith
close_length (b ∷ c ∷ []) n h lt = omega arith
close_length (b ∷ c ∷ d ∷ []) n h lt = omega arith
close_length (b ∷ c ∷ d ∷ e ∷ []) n h lt = absurd (omega (arith, h.2, h.4, lt))
close_length (b ∷ c ∷ d ∷ e ∷ f ∷ []) n h lt = absurd (omega (arith, h.2, h.4, lt))
close_length (b ∷ c ∷ d ∷ e ∷ f ∷ g ∷ bytes) n h lt = absurd (omega (arith, h.1))

-- an element whose contents have at most n bytes
close_tagged : (tag : ℕ) (content : List ℕ) (n : ℕ) → 4 + n < 65536 → length content ≤ n
    → length (element tag content) ≤ 4 + n
unfolding element
close_tagged tag content n lt le =
    let few = close_length (length_octets (length content)) (length content)
    (length_spelled (length content) (omega (arith, lt, le))) (omega (arith, lt, le)) in
    omega (arith, few, le, length-append (length_octets (length content)) content)

close_element : (kind : Primitive) (v : Meaning kind) → closest_element kind v < 65536
    → length (text (primitive kind) v) ≤ closest_element kind v
close_element (integer low high) n lt = texts_are_short (primitive (integer low high)) n
close_element sequence_number n lt = texts_are_short (primitive sequence_number) n
close_element (octets tag) bytes lt = close_tagged tag bytes (length bytes) lt (omega arith)
close_element bits n lt = texts_are_short (primitive bits) n
close_element time t lt = texts_are_short (primitive time) t

close_each : {A : Type 0} (text_of : A → List ℕ) (most : A → ℕ)
    → ((v : A) → most v < 65536 → length (text_of v) ≤ most v)
    → (vs : List A) → longest_each most vs < 65536 → length (flat_map text_of vs) ≤ longest_each most vs
close_each text_of most close [] lt = omega arith
close_each text_of most close (v ∷ vs) lt =
    let one = close v (omega (arith, lt)) in
    let others = close_each text_of most close vs (omega (arith, lt)) in
    omega (arith, ap length (flat_map-cons text_of v vs), length-append (text_of v) (flat_map text_of vs), one, others)

close_optional : {A : Type 0} (text_of : A → List ℕ) (most : A → ℕ)
    → ((v : A) → most v < 65536 → length (text_of v) ≤ most v)
    → (v : Option A) → longest_optional most v < 65536
    → length (optional_text text_of v) ≤ longest_optional most v
close_optional text_of most close None lt = omega arith
close_optional text_of most close (Some v) lt = close v lt

pub texts_are_close : (s : Shape) (v : Value s) → closest s v < 65536 → length (text s v) ≤ closest s v
texts_are_close (primitive kind) v lt = close_element kind v lt
texts_are_close (tagged tag s) v lt =
    close_tagged tag (text s v) (closest s v) lt (texts_are_close s v (omega (arith, lt)))
texts_are_close (many item) vs lt = close_each (text item) (closest item) (texts_are_close item) vs lt
texts_are_close (further low high) v lt = omega arith
texts_are_close nothing v lt = omega arith
texts_are_close (field first rest) v lt =
    let one = texts_are_close first v.0 (omega (arith, lt)) in
    let others = texts_are_close rest v.1 (omega (arith, lt)) in
    omega (arith, length-append (text first v.0) (text rest v.1), one, others)
texts_are_close (option tag first rest) v lt =
    let one = close_optional (λ w. element tag (text first w)) (λ w. 4 + closest first w)
    (λ w less. close_tagged tag (text first w) (closest first w) less (texts_are_close first w (omega (arith, less))))
    v.0 (omega (arith, lt)) in
    let others = texts_are_close rest v.1 (omega (arith, lt)) in
    omega (arith, length-append (optional_text (λ w. element tag (text first w)) v.0) (text rest v.1), one, others)

-- a value in its range fits where so many bytes make no long text
pub close_fits : (s : Shape) (v : Value s) → is_in_range s v ≡ true → closest s v ≤ longest_text → fits s v ≡ true
close_fits s v range le =
    let close = texts_are_close s v (omega (arith, le)) in
    short_texts_fit s v range (omega (arith, close, le))
