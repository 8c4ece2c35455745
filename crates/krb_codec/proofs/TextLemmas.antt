-- The text of a value spells it.
use Rattle.std.proofs.Common.{◌≡◌, ℕ, ◌+◌, ◌^◌, ◌≤◌, ◌<◌, ◌&&◌, not, Bool, true, false, List}
use Rattle.std.proofs.Common.{[], ◌∷◌, Option, Some, None, refl, sym, ap, subst, ◌∙◌, arith}
use Rattle.std.proofs.Common.{length, eqb, ltb, inl, inr, ℤ, pos, negsuc, ◌≤ℤ◌, FitsSigned, w64}
use Rattle.std.specs.Prelude.{int_lt, is_some}
use Rattle.std.specs.Int.{to_be_bytes, byte_at, bytes_high_first}
use Rattle.std.specs.Int.Digits.{number_from_digits_after}
use Rattle.std.specs.List.{flat_map}
use Rattle.std.proofs.lemmas.Int.{ints}
use Rattle.std.proofs.lemmas.Bool.{and_parts, cases_Bool, eqb-true, ltb-true, ltb-false, leb-true, not-true}
use Rattle.std.proofs.lemmas.List.{length-append}
use Rattle.std.proofs.lemmas.List.Concat.{flat_map-cons}
use Rattle.krb_codec.specs.Shapes.{Primitive, integer, sequence_number, octets, bits, time, Shape, primitive, tagged}
use Rattle.krb_codec.specs.Shapes.{many, further, nothing, field, option, Meaning, Value, is_between, tag_of}
use Rattle.krb_codec.specs.Integers.{number}
use Rattle.krb_codec.specs.Times.{IsTime, time_of}
use Rattle.krb_codec.specs.Texts.{without_zeros, length_octets, element, content_of, text, time_content}
use Rattle.krb_codec.specs.Texts.{is_meaning_in_range, each_is, is_in_range, longest_text, fits}
use Rattle.krb_codec.specs.Grammar.{IsLength, IsElement, IsMeaning, AreInTurn, Spells, is_element, is_bounded, is_apart, is_clear, is_legal}
use Rattle.krb_codec.specs.Reading.{starts}
use Rattle.krb_codec.proofs.IntegerLemmas.{eight_again, integer_spelled, not_below, sequence_number_spelled}
use Rattle.krb_codec.proofs.TimeLemmas.{time_of-exact}
use Rattle.krb_codec.proofs.BitStringLemmas.{bits_spelled}
use Rattle.krb_codec.proofs.SoundLemmas.{long_is}

-- ---- lengths

number-without_zeros : (bytes : List ℕ) → number (without_zeros bytes) ≡ number bytes
number-without_zeros [] = refl
number-without_zeros (b ∷ bytes) = elim (cases_Bool (eqb b 0)) [
  | inl e ↦
      let zero_first : 0 + b ≡ 0 = let is = eqb-true b 0 e in omega (arith, is) in
      rw e (number-without_zeros bytes ∙ ap (λ (n : ℕ). number_from_digits_after 256 n bytes) (sym zero_first))
  | inr e ↦ rw e refl
]

starts-without_zeros : (bytes : List ℕ) → starts 0 (without_zeros bytes) ≡ false
starts-without_zeros [] = refl
starts-without_zeros (b ∷ bytes) = elim (cases_Bool (eqb b 0)) [ inl e ↦ rw e (starts-without_zeros bytes) | inr e ↦ rw e e ]

length-without_zeros : (bytes : List ℕ) → length (without_zeros bytes) ≤ length bytes
length-without_zeros [] = omega arith
length-without_zeros (b ∷ bytes) = elim (cases_Bool (eqb b 0)) [
  | inl e ↦ let less = length-without_zeros bytes in rw e (omega (arith, less))
  | inr e ↦ rw e (omega arith)
]

zero_first : (b : ℕ) (bytes : List ℕ) → b ≡ 0 → without_zeros (b ∷ bytes) ≡ without_zeros bytes
zero_first b bytes is = rw is refl

at_most_four : (n : ℕ) → n < 2 ^ 32 → length (without_zeros (to_be_bytes w64 n)) ≤ 4
at_most_four n lt =
    let z7 : byte_at 7 n ≡ 0 = omega arith in
    let z6 : byte_at 6 n ≡ 0 = omega arith in
    let z5 : byte_at 5 n ≡ 0 = omega arith in
    let z4 : byte_at 4 n ≡ 0 = omega arith in
    let all = zero_first (byte_at 7 n) (bytes_high_first 7 n) z7 ∙ zero_first (byte_at 6 n) (bytes_high_first 6 n) z6
    ∙ zero_first (byte_at 5 n) (bytes_high_first 5 n) z5 ∙ zero_first (byte_at 4 n) (bytes_high_first 4 n) z4 in
    let few = length-without_zeros (bytes_high_first 4 n) in
    let same = ap length all in
    omega (arith, few, same)

pub length_spelled : (n : ℕ) → n < 2 ^ 32 → IsLength (length_octets n) n
unfolding length_octets
length_spelled n lt = elim (cases_Bool (ltb n 128)) [
  | inl e ↦ rw e (ltb-true n 128 e, refl)
  | inr e ↦
      let lead : List ℕ = without_zeros (to_be_bytes w64 n) in
      let is : number lead ≡ n = number-without_zeros (to_be_bytes w64 n) ∙ eight_again n (omega arith) in
      let big = ltb-false n 128 e in
      rw e (subst (IsLength ((128 + length lead) ∷ lead)) is (long_is (128 + length lead) lead refl
      (at_most_four n lt) (starts-without_zeros (to_be_bytes w64 n)) (omega (arith, is, big))))
]

element_spelled : (tag : ℕ) (content : List ℕ) → length (element tag content) < 2 ^ 32 → IsElement tag content (element tag content)
unfolding element
element_spelled tag content lt =
    let len = length-append (length_octets (length content)) content in
    (length_octets (length content), length_spelled (length content) (omega (arith, len, lt)), refl)

content_shorter : (tag : ℕ) (content : List ℕ) → length content ≤ length (element tag content)
unfolding element
content_shorter tag content = let len = length-append (length_octets (length content)) content in omega (arith, len)

-- ---- contents

pub within : (low high n : ℤ) → is_between low high n ≡ true → (low ≤ℤ n) × (n ≤ℤ high)
within low high n e =
    let t = and_parts (not (int_lt n low)) (not (int_lt high n)) e in
    (not_below n low (not-true _ t.0), not_below high n (not-true _ t.1))

pub fits_word : (n : ℤ) → negsuc 9223372036854775807 ≤ℤ n → n ≤ℤ pos 9223372036854775807 → FitsSigned w64 n
fits_word n low high = omega (arith, ints)

time_spelled : (t : ℤ) (text : Option (List ℕ)) → time_of t ≡ text → is_some text ≡ true → IsTime (time_content text) t
time_spelled t None e good = absurd cc
time_spelled t (Some text) e good = (time_of-exact t text).0 e

meaning_spelled : (kind : Primitive) → is_bounded kind ≡ true → (v : Meaning kind) → is_meaning_in_range kind v ≡ true → IsMeaning kind (content_of kind v) v
meaning_spelled (integer low high) bounded n good =
    let b = and_parts (is_between (negsuc 9223372036854775807) (pos 9223372036854775807) low)
    (is_between (negsuc 9223372036854775807) (pos 9223372036854775807) high) bounded in
    let l = within (negsuc 9223372036854775807) (pos 9223372036854775807) low b.0 in
    let h = within (negsuc 9223372036854775807) (pos 9223372036854775807) high b.1 in
    let w = within low high n good in
    integer_spelled low high n (fits_word n (omega (arith, ints, l.0, w.0)) (omega (arith, ints, h.1, w.1))) w.0 w.1
meaning_spelled sequence_number bounded n good = sequence_number_spelled n (let lt = ltb-true n 4294967296 good in omega (arith, lt))
meaning_spelled (octets tag) bounded v good = refl
meaning_spelled bits bounded n good = bits_spelled n (let lt = ltb-true n 4294967296 good in omega (arith, lt))
meaning_spelled time bounded t good = time_spelled t (time_of t) refl good

-- ---- whole texts

each_spelled : {A : Type 0} (spells : List ℕ → A → Type 0) (text_of : A → List ℕ) (good : A → Bool)
    → ((v : A) → good v ≡ true → length (text_of v) < 2 ^ 32 → spells (text_of v) v)
    → (vs : List A) → each_is good vs ≡ true → length (flat_map text_of vs) < 2 ^ 32 → AreInTurn spells (flat_map text_of vs) vs
each_spelled spells text_of good one [] all lt = refl
each_spelled spells text_of good one (v ∷ vs) all lt =
    let a = and_parts (good v) (each_is good vs) all in
    let parts = flat_map-cons text_of v vs in
    let len : length (flat_map text_of (v ∷ vs)) ≡ length (text_of v) + length (flat_map text_of vs) =
    ap length parts ∙ length-append (text_of v) (flat_map text_of vs) in
    (text_of v, flat_map text_of vs, parts, one v a.0 (omega (arith, len, lt)), each_spelled spells text_of good one vs a.1 (omega (arith, len, lt)))

spelled : (s : Shape) → is_clear s ≡ true → (v : Value s) → is_in_range s v ≡ true → length (text s v) < 2 ^ 32 → Spells s (text s v) v
spelled (primitive kind) clear v good lt = (content_of kind v, element_spelled (tag_of kind) (content_of kind v) lt, meaning_spelled kind clear v good)
spelled (tagged tag s) clear v good lt =
    let shorter = content_shorter tag (text s v) in
    (text s v, element_spelled tag (text s v) lt, spelled s clear v good (omega (arith, shorter, lt)))
spelled (many item) clear vs good lt =
    let c = and_parts (is_element item) (is_clear item) clear in
    each_spelled (Spells item) (text item) (is_in_range item) (spelled item c.1) vs good lt
spelled (further low high) clear v good lt = ([], refl)
spelled nothing clear v good lt = refl
spelled (field first rest) clear v good lt =
    let c = and_parts (is_element first && is_clear first) (is_clear rest) clear in
    let d = and_parts (is_element first) (is_clear first) c.0 in
    let g = and_parts (is_in_range first v.0) (is_in_range rest v.1) good in
    let len = length-append (text first v.0) (text rest v.1) in
    (text first v.0, text rest v.1, refl, spelled first d.1 v.0 g.0 (omega (arith, len, lt)), spelled rest c.1 v.1 g.1 (omega (arith, len, lt)))
spelled (option tag first rest) clear (None, w) good lt =
    let c = and_parts (is_clear first && is_clear rest) (is_apart tag rest) clear in
    let d = and_parts (is_clear first) (is_clear rest) c.0 in
    spelled rest d.1 w good lt
spelled (option tag first rest) clear (Some v, w) good lt =
    let c = and_parts (is_clear first && is_clear rest) (is_apart tag rest) clear in
    let d = and_parts (is_clear first) (is_clear rest) c.0 in
    let g = and_parts (is_in_range first v) (is_in_range rest w) good in
    let len = length-append (element tag (text first v)) (text rest w) in
    let shorter = content_shorter tag (text first v) in (
      element tag (text first v),
      text rest w,
      refl,
      (text first v, element_spelled tag (text first v) (omega (arith, len, lt)), spelled first d.0 v g.0 (omega (arith, len, lt, shorter))),
      spelled rest d.1 w g.1 (omega (arith, len, lt)),
    )

pub text_spells : (s : Shape) → is_legal s ≡ true → (v : Value s) → fits s v ≡ true → Spells s (text s v) v
unfolding fits
text_spells s legal v fit =
    let l = and_parts (is_element s) (is_clear s) legal in
    let f = and_parts (is_in_range s v) _ fit in
    let short = leb-true (length (text s v)) longest_text f.1 in
    spelled s l.1 v f.0 (omega (arith, short))
