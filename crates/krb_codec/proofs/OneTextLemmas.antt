-- A regular spelling of a value is its text.
use Rattle.std.proofs.Common.{◌≡◌, ℕ, zero, suc, ◌-◌, ◌+◌, ◌^◌, ◌≤◌, ◌<◌, ◌&&◌, true, false, cond, List}
use Rattle.std.proofs.Common.{[], ◌∷◌, ◌++◌, Some, None, refl, sym, ap, subst, ◌∙◌, arith, length, get_or}
use Rattle.std.proofs.Common.{eqb, ltb, inl, inr, ℤ, pos, negsuc, ◌≤ℤ◌, ◌-ℤ◌, FitsSigned, w64, w32}
use Rattle.std.specs.Int.{to_be_bytes, from_be_bytes, cast_unsigned}
use Rattle.std.specs.List.{flat_map, AllByRecursion}
use Rattle.std.proofs.lemmas.Int.{ints}
use Rattle.std.proofs.lemmas.Nat.{be_bytes_8, be_bytes_4}
use Rattle.std.proofs.lemmas.Bool.{and_parts, cases_Bool, ltb-true, ltb-false, lt-ltb, le-ltb, le-leb, ne_eqb}
use Rattle.std.proofs.lemmas.List.Concat.{flat_map-cons}
use Rattle.krb_codec.specs.Shapes.{Primitive, integer, sequence_number, octets, bits, time, Shape, primitive, tagged}
use Rattle.krb_codec.specs.Shapes.{many, further, nothing, field, option, Meaning, Value, is_between, tag_of}
use Rattle.krb_codec.specs.Integers.{number, repeats_sign, is_shortest_integer, signed, IsInteger, IsSequenceNumber}
use Rattle.krb_codec.specs.Integers.{without_sign, integer_octets, sequence_number_octets, word_of}
use Rattle.krb_codec.specs.BitStrings.{IsBits, bits_octets, first_word}
use Rattle.krb_codec.specs.Texts.{without_zeros, length_octets, element, content_of, text, time_content}
use Rattle.krb_codec.specs.Grammar.{IsLength, IsElement, IsMeaning, AreInTurn, IsFurther, Spells, is_element, is_bounded, is_apart, is_clear, is_legal}
use Rattle.krb_codec.specs.Laws.{IsUsualContent, AreUsual, IsUsual}
use Rattle.krb_codec.proofs.IntegerLemmas.{number_of_eight, signed_without, long_outside}
use Rattle.krb_codec.proofs.TimeLemmas.{time_of-exact}
use Rattle.krb_codec.proofs.TextLemmas.{within, fits_word}

abbrev AreBytes : List ℕ → Type 0
AreBytes bytes = AllByRecursion (λ b. b < 256) bytes

byte_of : (bytes : List ℕ) → AreBytes bytes → (i : ℕ) → get_or bytes i 0 < 256
byte_of [] all i = omega arith
byte_of (b ∷ bytes) all zero = all.0
byte_of (b ∷ bytes) all (suc i) = byte_of bytes all.1 i

front_bytes : (xs ys : List ℕ) → AreBytes (xs ++ ys) → AreBytes xs
front_bytes [] ys all = tt
front_bytes (x ∷ xs) ys all = (all.0, front_bytes xs ys all.1)

back_bytes : (xs ys : List ℕ) → AreBytes (xs ++ ys) → AreBytes ys
back_bytes [] ys all = all
back_bytes (x ∷ xs) ys all = back_bytes xs ys all.1

-- ---- eight bytes

eight_only : (bytes : List ℕ) (n : ℕ) → length bytes ≡ 8 → AreBytes bytes → number bytes ≡ n → to_be_bytes w64 n ≡ bytes
eight_only (a ∷ b ∷ c ∷ d ∷ e ∷ f ∷ g ∷ h ∷ []) n len all is =
    be_bytes_8 (a ∷ b ∷ c ∷ d ∷ e ∷ f ∷ g ∷ h ∷ []) n len (byte_of (a ∷ b ∷ c ∷ d ∷ e ∷ f ∷ g ∷ h ∷ []) all) (sym is ∙ number_of_eight a b c d e f g h)
eight_only bytes n len all is = absurd (omega (arith, len))

-- ---- lengths

-- bytes in front, as many as k, each found from what follows it
filled : (List ℕ → ℕ) → ℕ → List ℕ → List ℕ
filled fill zero bytes = bytes
filled fill (suc k) bytes = fill (filled fill k bytes) ∷ filled fill k bytes

filled_length : (fill : List ℕ → ℕ) (k : ℕ) (bytes : List ℕ) → length (filled fill k bytes) ≡ k + length bytes
unfolding filled
filled_length fill zero bytes = omega arith
filled_length fill (suc k) bytes = let e = filled_length fill k bytes in omega (arith, e)

filled_bytes : (fill : List ℕ → ℕ) → ((rest : List ℕ) → fill rest < 256) → (k : ℕ) (bytes : List ℕ) → AreBytes bytes → AreBytes (filled fill k bytes)
unfolding filled
filled_bytes fill small zero bytes all = all
filled_bytes fill small (suc k) bytes all = (small (filled fill k bytes), filled_bytes fill small k bytes all)

abbrev zeros : ℕ → List ℕ → List ℕ
zeros k bytes = filled (λ (rest : List ℕ). 0) k bytes

zeros_number : (k : ℕ) (bytes : List ℕ) → number (zeros k bytes) ≡ number bytes
unfolding filled
zeros_number zero bytes = refl
zeros_number (suc k) bytes = zeros_number k bytes

zeros_without : (k : ℕ) (bytes : List ℕ) → without_zeros (zeros k bytes) ≡ without_zeros bytes
unfolding filled
zeros_without zero bytes = refl
zeros_without (suc k) bytes = zeros_without k bytes

length_only : (lead : List ℕ) (n : ℕ) → IsLength lead n → AreBytes lead → lead ≡ length_octets n
unfolding length_octets
length_only [] n h all = absurd h
length_only (b ∷ []) n h all = let small = lt-ltb b 128 h.0 in rw (h.1, small) refl
length_only (b ∷ c ∷ bytes) n h all =
    let tail : List ℕ = c ∷ bytes in
    let k : ℕ = 8 - length tail in
    let eight : length (zeros k tail) ≡ 8 = filled_length (λ (rest : List ℕ). 0) k tail ∙ omega (arith, h.1) in
    let is : to_be_bytes w64 n ≡ zeros k tail = eight_only (zeros k tail) n eight
    (filled_bytes (λ (rest : List ℕ). 0) (λ rest. omega arith) k tail all.1) (zeros_number k tail ∙ sym h.4) in
    let some : eqb c 0 ≡ false = ne_eqb c 0 (λ e. omega (arith, e, h.2)) in
    let first : without_zeros tail ≡ tail = rw some refl in
    let rest : without_zeros (to_be_bytes w64 n) ≡ tail = ap without_zeros is ∙ zeros_without k tail ∙ first in
    let big : ltb n 128 ≡ false = le-ltb n 128 h.3 in
    rw (big, rest, h.0) refl

element_only : (tag : ℕ) (content bytes : List ℕ) → IsElement tag content bytes → AreBytes bytes → bytes ≡ element tag content
unfolding element
element_only tag content bytes h all =
    let there : AreBytes (tag ∷ (h.0 ++ content)) = subst AreBytes h.2 all in
    let lead = length_only h.0 (length content) h.1 (front_bytes h.0 content there.1) in
    h.2 ∙ ap (λ (t : List ℕ). tag ∷ (t ++ content)) lead

content_bytes : (tag : ℕ) (content bytes : List ℕ) → IsElement tag content bytes → AreBytes bytes → AreBytes content
content_bytes tag content bytes h all =
    let there : AreBytes (tag ∷ (h.0 ++ content)) = subst AreBytes h.2 all in
    back_bytes h.0 content there.1

-- ---- integers

sign_byte : List ℕ → ℕ
sign_byte [] = 0
sign_byte (a ∷ bytes) = cond (ltb a 128) 0 255

-- bytes in front that only repeat the sign, as many as k
abbrev signs : ℕ → List ℕ → List ℕ
signs k bytes = filled sign_byte k bytes

sign_repeats : (bytes : List ℕ) → 0 < length bytes → repeats_sign (sign_byte bytes) bytes ≡ true
unfolding sign_byte
sign_repeats [] some = absurd (omega (arith, some))
sign_repeats (a ∷ bytes) some = elim (cases_Bool (ltb a 128)) [
  | inl e ↦ rw e refl
  | inr e ↦ let high = ltb-false a 128 e in let le = le-leb 128 a high in rw (e, le) refl
]

sign_small : (bytes : List ℕ) → sign_byte bytes < 256
unfolding sign_byte
sign_small [] = omega arith
sign_small (a ∷ bytes) = elim (cases_Bool (ltb a 128)) [ inl e ↦ rw e (omega arith) | inr e ↦ rw e (omega arith) ]

signs_some : (k : ℕ) (bytes : List ℕ) → 0 < length bytes → 0 < length (signs k bytes)
signs_some k bytes some = let e = filled_length sign_byte k bytes in omega (arith, e, some)

signs_signed : (k : ℕ) (bytes : List ℕ) → 0 < length bytes → signed (signs k bytes) ≡ signed bytes
unfolding filled
signs_signed zero bytes some = refl
signs_signed (suc k) bytes some =
    signed_without (sign_byte (signs k bytes)) (signs k bytes) (sign_repeats (signs k bytes) (signs_some k bytes some)) ∙ signs_signed k bytes some

dropped : (a : ℕ) (bytes : List ℕ) → repeats_sign a bytes ≡ true → without_sign (a ∷ bytes) ≡ without_sign bytes
dropped a bytes e = rw e refl

signs_without : (k : ℕ) (bytes : List ℕ) → 0 < length bytes → without_sign (signs k bytes) ≡ without_sign bytes
unfolding filled
signs_without zero bytes some = refl
signs_without (suc k) bytes some =
    dropped (sign_byte (signs k bytes)) (signs k bytes) (sign_repeats (signs k bytes) (signs_some k bytes some)) ∙ signs_without k bytes some

-- a number of 64 bits in two's complement, without its sign
unsigned_of : (a n : ℕ) → n < 2 ^ 64 → (128 ≤ a → 2 ^ 63 ≤ n) → cast_unsigned w64 (cond (ltb a 128) (pos n) (pos n -ℤ pos (2 ^ 64))) ≡ n
unsigned_of a n small high = elim (cases_Bool (ltb a 128)) [
  | inl e ↦ rw e refl
  | inr e ↦
      let big : 2 ^ 63 ≤ n = high (ltb-false a 128 e) in
      let k : ℕ = 2 ^ 64 - 1 - n in
      let is : pos n -ℤ pos (2 ^ 64) ≡ negsuc k = omega (arith, ints) in
      rw (e, is) (omega arith)
]

eight_unsigned : (bytes : List ℕ) → length bytes ≡ 8 → AreBytes bytes → cast_unsigned w64 (signed bytes) ≡ number bytes
eight_unsigned (a ∷ b ∷ c ∷ d ∷ e ∷ f ∷ g ∷ h ∷ []) len all =
    unsigned_of a (number (a ∷ b ∷ c ∷ d ∷ e ∷ f ∷ g ∷ h ∷ [])) (omega (arith, all)) (λ high. omega (arith, all, high))
eight_unsigned bytes len all = absurd (omega (arith, len))

shortest_stays : (content : List ℕ) → is_shortest_integer content ≡ true → without_sign content ≡ content
shortest_stays [] e = absurd cc
shortest_stays (a ∷ bytes) e = elim (cases_Bool (repeats_sign a bytes)) [
  | inl r ↦ absurd (let no : is_shortest_integer (a ∷ bytes) ≡ false = rw r refl in let both : true ≡ false = sym e ∙ no in cc)
  | inr r ↦ rw r refl
]

shortest_some : (content : List ℕ) → is_shortest_integer content ≡ true → 0 < length content
shortest_some [] e = absurd cc
shortest_some (a ∷ bytes) e = omega arith

short : (low high n : ℤ) (content : List ℕ) → FitsSigned w64 low → FitsSigned w64 high → IsInteger low high content n → AreBytes content → length content ≤ 8
short low high n content fl fh h all = elim (cases_Bool (ltb 8 (length content))) [
  | inl e ↦
      let least : low ≤ℤ signed content = subst (λ m. low ≤ℤ m) h.1 h.2 in
      let most : signed content ≤ℤ high = subst (λ m. m ≤ℤ high) h.1 h.3 in
      absurd (elim (long_outside low high content (byte_of content all) fl fh h.0 (ltb-true 8 (length content) e)) [
        | inl below ↦ omega (arith, ints, below, least)
        | inr above ↦ omega (arith, ints, above, most)
      ])
  | inr e ↦ ltb-false 8 (length content) e
]

integer_only : (low high n : ℤ) (content : List ℕ) → FitsSigned w64 low
    → FitsSigned w64 high → IsInteger low high content n → AreBytes content → content ≡ integer_octets n
unfolding integer_octets
integer_only low high n content fl fh h all =
    let few = short low high n content fl fh h all in
    let some = shortest_some content h.0 in
    let k : ℕ = 8 - length content in
    let long : List ℕ = signs k content in
    let eight : length long ≡ 8 = filled_length sign_byte k content ∙ omega (arith, few) in
    let value : number long ≡ cast_unsigned w64 n =
    sym (eight_unsigned long eight (filled_bytes sign_byte sign_small k content all))
    ∙ ap (cast_unsigned w64) (signs_signed k content some ∙ sym h.1) in
    let is : to_be_bytes w64 (cast_unsigned w64 n) ≡ long =
    eight_only long (cast_unsigned w64 n) eight (filled_bytes sign_byte sign_small k content all) value in
    sym (ap without_sign is ∙ signs_without k content some ∙ shortest_stays content h.0)

-- ---- the other contents

word_again : (z : ℤ) → pos 0 ≤ℤ z → z ≤ℤ pos 4294967295 → pos (word_of z) ≡ z
word_again (pos k) low high = let same : word_of (pos k) ≡ k = let lt : k < 4294967296 = omega (arith, ints, high) in omega (arith, lt) in ap pos same
word_again (negsuc k) low high = absurd (omega (arith, ints, low))

sequence_number_only : (content : List ℕ) (n : ℕ) → IsSequenceNumber content n → pos 0 ≤ℤ signed content → AreBytes content → content ≡ sequence_number_octets n
sequence_number_only content n h low all =
    let same : pos n ≡ signed content = ap pos h.1 ∙ word_again (signed content) low h.3 in
    let is : IsInteger (negsuc 2147483647) (pos 4294967295) content (pos n) = (
      h.0,
      same,
      subst (λ m. negsuc 2147483647 ≤ℤ m) (sym same) h.2,
      subst (λ m. m ≤ℤ pos 4294967295) (sym same) h.3,
    ) in
    integer_only (negsuc 2147483647) (pos 4294967295) (pos n) content (omega (arith, ints)) (omega (arith, ints)) is all

number_of_four : (a b c d : ℕ) → number (a ∷ b ∷ c ∷ d ∷ []) ≡ from_be_bytes w32 (a ∷ b ∷ c ∷ d ∷ [])
number_of_four a b c d = omega arith

bits_only : (content : List ℕ) (n : ℕ) → IsBits content n → length content ≡ 5 → get_or content 0 0 ≡ 0 → AreBytes content → content ≡ bits_octets n
unfolding bits_octets first_word
bits_only (u ∷ a ∷ b ∷ c ∷ d ∷ []) n h len none all =
    let is : to_be_bytes w32 n ≡ a ∷ b ∷ c ∷ d ∷ [] =
    be_bytes_4 (a ∷ b ∷ c ∷ d ∷ []) n refl (byte_of (a ∷ b ∷ c ∷ d ∷ []) all.1) (h.1 ∙ number_of_four a b c d) in
    rw (is, none) refl
bits_only content n h len none all = absurd (omega (arith, len))

content_only : (kind : Primitive) → is_bounded kind ≡ true → (content : List ℕ) (v : Meaning kind)
    → IsMeaning kind content v → IsUsualContent kind content → AreBytes content → content ≡ content_of kind v
content_only (integer low high) bounded content n h usual all =
    let b = and_parts (is_between (negsuc 9223372036854775807) (pos 9223372036854775807) low)
    (is_between (negsuc 9223372036854775807) (pos 9223372036854775807) high) bounded in
    let l = within (negsuc 9223372036854775807) (pos 9223372036854775807) low b.0 in
    let u = within (negsuc 9223372036854775807) (pos 9223372036854775807) high b.1 in
    integer_only low high n content (fits_word low l.0 l.1) (fits_word high u.0 u.1) h all
content_only sequence_number bounded content n h usual all = sequence_number_only content n h usual all
content_only (octets tag) bounded content v h usual all = h
content_only bits bounded content n h usual all = bits_only content n h usual.0 usual.1 all
content_only time bounded content t h usual all = sym (ap time_content ((time_of-exact t content).1 h))

-- ---- whole texts

both_only : (xs ys zs ws : List ℕ) → xs ≡ zs → ys ≡ ws → xs ++ ys ≡ zs ++ ws
both_only xs ys zs ws e f = ap (λ (t : List ℕ). t ++ ys) e ∙ ap (λ (t : List ℕ). zs ++ t) f

each_only : {A : Type 0} (spells : List ℕ → A → Type 0) (usual : (text : List ℕ) (v : A) → spells text v → Type 0) (text_of : A → List ℕ)
    → ((bytes : List ℕ) (v : A) (h : spells bytes v) → usual bytes v h → AreBytes bytes → bytes ≡ text_of v)
    → (bytes : List ℕ) (vs : List A) (h : AreInTurn spells bytes vs) → AreUsual spells usual bytes vs h → AreBytes bytes → bytes ≡ flat_map text_of vs
each_only spells usual text_of one bytes [] h u all = h
each_only spells usual text_of one bytes (v ∷ vs) h u all =
    let there : AreBytes (h.0 ++ h.1) = subst AreBytes h.2 all in
    h.2 ∙ both_only h.0 h.1 (text_of v) (flat_map text_of vs) (one h.0 v h.3 u.0 (front_bytes h.0 h.1 there))
    (each_only spells usual text_of one h.1 vs h.4 u.1 (back_bytes h.0 h.1 there))
    ∙ sym (flat_map-cons text_of v vs)

none_of : {A : Type 0} (spells : List ℕ → A → Type 0) (bytes : List ℕ) (vs : List A) → AreInTurn spells bytes vs → vs ≡ [] → bytes ≡ []
none_of spells bytes [] h none = h
none_of spells bytes (v ∷ vs) h none = absurd cc

text_only : (s : Shape) → is_clear s ≡ true → (bytes : List ℕ) (v : Value s) (h : Spells s bytes v) → IsUsual s bytes v h → AreBytes bytes → bytes ≡ text s v
text_only (primitive kind) clear bytes v h u all =
    element_only (tag_of kind) h.0 bytes h.1 all ∙ ap (element (tag_of kind))
    (content_only kind clear h.0 v h.2 u (content_bytes (tag_of kind) h.0 bytes h.1 all))
text_only (tagged tag s) clear bytes v h u all =
    element_only tag h.0 bytes h.1 all ∙ ap (element tag) (text_only s clear h.0 v h.2 u (content_bytes tag h.0 bytes h.1 all))
text_only (many item) clear bytes vs h u all =
    let c = and_parts (is_element item) (is_clear item) clear in
    each_only (Spells item) (IsUsual item) (text item) (text_only item c.1) bytes vs h u all
text_only (further low high) clear bytes v h u all = none_of (IsFurther low high) bytes h.0 h.1 u
text_only nothing clear bytes v h u all = h
text_only (field first rest) clear bytes v h u all =
    let c = and_parts (is_element first && is_clear first) (is_clear rest) clear in
    let d = and_parts (is_element first) (is_clear first) c.0 in
    let there : AreBytes (h.0 ++ h.1) = subst AreBytes h.2 all in
    h.2 ∙ both_only h.0 h.1 (text first v.0)
    (text rest v.1) (text_only first d.1 h.0 v.0 h.3 u.0 (front_bytes h.0 h.1 there))
    (text_only rest c.1 h.1 v.1 h.4 u.1 (back_bytes h.0 h.1 there))
text_only (option tag first rest) clear bytes (None, w) h u all =
    let c = and_parts (is_clear first && is_clear rest) (is_apart tag rest) clear in
    let d = and_parts (is_clear first) (is_clear rest) c.0 in
    text_only rest d.1 bytes w h u all
text_only (option tag first rest) clear bytes (Some v, w) h u all =
    let c = and_parts (is_clear first && is_clear rest) (is_apart tag rest) clear in
    let d = and_parts (is_clear first) (is_clear rest) c.0 in
    let there : AreBytes (h.0 ++ h.1) = subst AreBytes h.2 all in
    let front = front_bytes h.0 h.1 there in
    let one = element_only tag h.3.0 h.0 h.3.1 front ∙ ap (element tag) (text_only first d.0 h.3.0 v h.3.2 u.0 (content_bytes tag h.3.0 h.0 h.3.1 front)) in
    h.2 ∙ both_only h.0 h.1 (element tag (text first v)) (text rest w) one (text_only rest d.1 h.1 w h.4 u.1 (back_bytes h.0 h.1 there))

pub one_text : (s : Shape) → is_legal s ≡ true → (bytes : List ℕ) (v : Value s) (h : Spells s bytes v) → IsUsual s bytes v h → AreBytes bytes → bytes ≡ text s v
one_text s legal bytes v h u all =
    let l = and_parts (is_element s) (is_clear s) legal in
    text_only s l.1 bytes v h u all
