-- Texts and octet strings that are made of bytes: those of a value where its text is, its text where they
-- are, and a key of such a string.
use Rattle.std.proofs.Common.{◌≡◌, ℕ, ◌<◌, ◌&&◌, Bool, true, false, List, ◌∷◌, ◌++◌, length, Some, None, refl}
use Rattle.std.proofs.Common.{subst, ℤ, pos, ◌+◌, [], Option, arith, inl, inr, eqb, ltb, sym, rules, lit<, get_or}
use Rattle.std.specs.Prelude.{◌==◌, if◌then◌else◌, IfSome, nat_lt}
use Rattle.std.specs.Ordering.{int_eq}
use Rattle.std.proofs.lemmas.Bool.{eqb-true, ltb-true}
use Rattle.std.proofs.lemmas.List.{take_at, drop_at}
use Rattle.std.proofs.lemmas.List.Elements.{All-take, All-drop, All-append, All-cons, All-head, All-nil, All-tail}
use Rattle.std.specs.Int.{cast_unsigned, to_be_bytes, to_le_bytes, w16, w32, w64}
use Rattle.krb_aes.specs.Bytes.{AreBytes}
use Rattle.krb_keys.specs.Keys.{IsProtocolKey, key_of}
use Rattle.krb_keys.specs.declared.key.Key.TheVariants.{Aes128, Aes256}
use Rattle.krb_codec.specs.Shapes.{Primitive, integer, sequence_number, octets, bits, time, Shape, primitive}
use Rattle.krb_codec.specs.Shapes.{tagged, many, further, nothing, field, option, Meaning, Value, tag_of}
use Rattle.krb_codec.specs.Grammar.{IsElement, Spells}
use Rattle.krb_codec.proofs.CompleteLemmas.{and_true, same_or_not}
use Rattle.krb_codec.specs.Integers.{integer_octets, repeats_sign, without_sign}
use Rattle.krb_codec.specs.BitStrings.{bits_octets}
use Rattle.krb_codec.specs.Times.{civil_text, time_of}
use Rattle.krb_codec.specs.Texts.{content_of, element, length_octets, text, time_content, without_zeros}
use Rattle.krb_codec.proofs.TimeLemmas.{civil_text_form, form_parts, time_of-exact}
use Rattle.krb_msgs.specs.Making.{word_bytes}
use Rattle.krb_msgs.proofs.LengthLemmas.{short-without_zeros}

-- ---- octet strings

-- whether a value's octet strings are made of bytes; those of lists aren't looked at
abbrev pub HoldsBytes : (s : Shape) → Value s → Type 0
HoldsBytes (primitive (octets tag)) v = AreBytes v
HoldsBytes (tagged tag s) v = HoldsBytes s v
HoldsBytes (field first rest) v = HoldsBytes first v.0 × HoldsBytes rest v.1
HoldsBytes (option tag first rest) v = IfSome v.0 (HoldsBytes first) × HoldsBytes rest v.1
HoldsBytes s v = Unit {0}

front : (xs ys text : List ℕ) → text ≡ xs ++ ys → AreBytes text → AreBytes xs
front xs ys text is are =
    subst AreBytes (take_at xs ys (length xs) refl) (All-take (λ b. b < 256) (length xs) (xs ++ ys) (subst AreBytes is are))

behind : (xs ys text : List ℕ) → text ≡ xs ++ ys → AreBytes text → AreBytes ys
behind xs ys text is are =
    subst AreBytes (drop_at xs ys (length xs) refl) (All-drop (λ b. b < 256) (length xs) (xs ++ ys) (subst AreBytes is are))

inside : (tag : ℕ) (content text : List ℕ) → IsElement tag content text → AreBytes text → AreBytes content
inside tag content text h = behind (tag ∷ h.0) content text h.2

pub holds_bytes : (s : Shape) (text : List ℕ) (v : Value s) → Spells s text v → AreBytes text → HoldsBytes s v
holds_bytes (primitive (octets tag)) text v h are = subst AreBytes h.2 (inside tag h.0 text h.1 are)
holds_bytes (tagged tag s) text v h are = holds_bytes s h.0 v h.2 (inside tag h.0 text h.1 are)
holds_bytes (field first rest) text v h are =
    (holds_bytes first h.0 v.0 h.3 (front h.0 h.1 text h.2 are), holds_bytes rest h.1 v.1 h.4 (behind h.0 h.1 text h.2 are))
holds_bytes (option tag first rest) text (None, w) h are = (tt, holds_bytes rest text w h are)
holds_bytes (option tag first rest) text (Some v, w) h are = (
  holds_bytes first h.3.0 v h.3.2 (inside tag h.3.0 h.0 h.3.1 (front h.0 h.1 text h.2 are)),
  holds_bytes rest h.1 w h.4 (behind h.0 h.1 text h.2 are),
)
holds_bytes s text v h are = tt

-- ---- keys

-- what is made by two tests of a number and a length
made : (is_17 is_18 : Bool) (bytes : List ℕ) → AreBytes bytes → (is_17 ≡ true → length bytes ≡ 16) → (is_18 ≡ true → length bytes ≡ 32)
    → IfSome (if is_17 then Some (Aes128 bytes) else if is_18 then Some (Aes256 bytes) else None) IsProtocolKey
made true is_18 bytes are short long = (short refl, are)
made false true bytes are short long = (long refl, are)
made false false bytes are short long = tt

-- the key made of bytes is a protocol key
pub key_of_bytes : (number : ℤ) (bytes : List ℕ) → AreBytes bytes → IfSome (key_of number bytes) IsProtocolKey
key_of_bytes number bytes are =
    made (int_eq number (pos 17) && (length bytes == 16)) (int_eq number (pos 18) && (length bytes == 32)) bytes are
    (λ h. eqb-true (length bytes) 16 (and_true (int_eq number (pos 17)) (length bytes == 16) h).1)
    (λ h. eqb-true (length bytes) 32 (and_true (int_eq number (pos 18)) (length bytes == 32) h).1)

-- ---- the text of a value whose octet strings are made of bytes

none_are : AreBytes []
none_are = All-nil (λ (b : ℕ). b < 256)

one_more : (b : ℕ) (bytes : List ℕ) → b < 256 → AreBytes bytes → AreBytes (b ∷ bytes)
one_more b bytes lt are = All-cons (λ (x : ℕ). x < 256) b bytes lt are

pub both_are : (xs ys : List ℕ) → AreBytes xs → AreBytes ys → AreBytes (xs ++ ys)
both_are xs ys h k = All-append (λ (x : ℕ). x < 256) xs ys h k

-- one after the other
abbrev Each : List ℕ → Type 0
Each [] = Unit {0}
Each (b ∷ bytes) = (b < 256) × Each bytes

pub each_is : (bytes : List ℕ) → Each bytes → AreBytes bytes
each_is [] h = none_are
each_is (b ∷ bytes) h = one_more b bytes h.0 (each_is bytes h.1)

-- ---- numbers

pub two_bytes : (n : ℕ) → AreBytes (to_be_bytes w16 n)
two_bytes n = each_is (to_be_bytes w16 n) (omega arith, (omega arith, tt))

four_bytes : (n : ℕ) → AreBytes (to_be_bytes w32 n)
four_bytes n = each_is (to_be_bytes w32 n) (omega arith, (omega arith, (omega arith, (omega arith, tt))))

word : (n : ℕ) → AreBytes (to_le_bytes w32 n)
word n = each_is (to_le_bytes w32 n) (omega arith, (omega arith, (omega arith, (omega arith, tt))))

pub words_are : (words : List ℕ) → AreBytes (word_bytes words)
words_are [] = none_are
words_are (w ∷ words) = both_are (to_le_bytes w32 w) (word_bytes words) (word w) (words_are words)

eight_bytes : (n : ℕ) → AreBytes (to_be_bytes w64 n)
eight_bytes n =
    each_is (to_be_bytes w64 n) (omega arith, (omega arith, (omega arith, (omega arith, (omega arith, (omega arith, (omega arith, (omega arith, tt))))))))

head_is : (b : ℕ) (bytes : List ℕ) → AreBytes (b ∷ bytes) → (b < 256) × AreBytes bytes
head_is b bytes are = (All-head (λ (x : ℕ). x < 256) b bytes are, All-tail (λ (x : ℕ). x < 256) b bytes are)

zeros_gone : (bytes : List ℕ) → AreBytes bytes → AreBytes (without_zeros bytes)
zeros_gone [] are = are
zeros_gone (b ∷ bytes) are = elim (same_or_not (eqb b 0)) [
  | inl e ↦ rw e (zeros_gone bytes (head_is b bytes are).1)
  | inr e ↦ rw e are
]

sign_gone : (bytes : List ℕ) → AreBytes bytes → AreBytes (without_sign bytes)
sign_gone [] are = are
sign_gone (b ∷ bytes) are = elim (same_or_not (repeats_sign b bytes)) [
  | inl e ↦ rw e (sign_gone bytes (head_is b bytes are).1)
  | inr e ↦ rw e are
]

-- a length below 2 ^ 64 has at most eight bytes
length_bytes : (n : ℕ) → AreBytes (length_octets n)
unfolding length_octets
length_bytes n =
    let rest = zeros_gone (to_be_bytes w64 n) (eight_bytes n) in
    let few = short-without_zeros (to_be_bytes w64 n) in
    elim (same_or_not (ltb n 128)) [
      | inl e ↦ let lt = ltb-true n 128 e in rw e (one_more n [] (omega (arith, lt)) none_are)
      | inr e ↦ rw e (one_more (128 + length (without_zeros (to_be_bytes w64 n))) (without_zeros (to_be_bytes w64 n)) (omega (arith, few)) rest)
    ]

element_bytes : (tag : ℕ) (content : List ℕ) → tag < 256 → AreBytes content → AreBytes (element tag content)
unfolding element
element_bytes tag content lt are =
    one_more tag (length_octets (length content) ++ content) lt (both_are (length_octets (length content)) content (length_bytes (length content)) are)

-- ---- times

time_bytes : (t : ℤ) (o : Option (List ℕ)) → time_of t ≡ o → AreBytes (time_content o)
time_bytes t None is = none_are
time_bytes t (Some bytes) is =
    let h = (time_of-exact t bytes).0 is in
    let form = form_parts (civil_text h.0) (civil_text_form h.0 h.1) in
    let digit : (i : ℕ) → i < 14 → get_or (civil_text h.0) i 0 < 256 = λ i lt. let two = form.1 i lt in omega (arith, two) in
    subst AreBytes (sym h.2) (each_is (civil_text h.0) (
      digit 0 (lit< tt),
      (
        digit 1 (lit< tt),
        (
          digit 2 (lit< tt),
          (
            digit 3 (lit< tt),
            (
              digit 4 (lit< tt),
              (
                digit 5 (lit< tt),
                (
                  digit 6 (lit< tt),
                  (
                    digit 7 (lit< tt),
                    (
                      digit 8 (lit< tt),
                      (
                        digit 9 (lit< tt),
                        (digit 10 (lit< tt), (digit 11 (lit< tt), (digit 12 (lit< tt), (digit 13 (lit< tt), (lit< tt, tt))))),
                      ),
                    ),
                  ),
                ),
              ),
            ),
          ),
        ),
      ),
    ))

-- ---- texts

-- its tags are bytes, and it has no list
abbrev is_in_bytes : Shape → Bool
is_in_bytes (primitive kind) = nat_lt (tag_of kind) 256
is_in_bytes (tagged tag s) = nat_lt tag 256 && is_in_bytes s
is_in_bytes (many item) = false
is_in_bytes (further low high) = true
is_in_bytes nothing = true
is_in_bytes (field first rest) = is_in_bytes first && is_in_bytes rest
is_in_bytes (option tag first rest) = nat_lt tag 256 && (is_in_bytes first && is_in_bytes rest)

content_bytes : (kind : Primitive) (v : Meaning kind) → HoldsBytes (primitive kind) v → AreBytes (content_of kind v)
unfolding integer_octets bits_octets
content_bytes (integer low high) n h = sign_gone (to_be_bytes w64 (cast_unsigned w64 n)) (eight_bytes _)
content_bytes sequence_number n h = sign_gone (to_be_bytes w64 (cast_unsigned w64 (pos n))) (eight_bytes _)
content_bytes (octets tag) bytes h = h
content_bytes bits n h = one_more 0 (to_be_bytes w32 n) (omega arith) (four_bytes n)
content_bytes time t h = time_bytes t (time_of t) refl

pub text_bytes : (s : Shape) (v : Value s) → is_in_bytes s ≡ true → HoldsBytes s v → AreBytes (text s v)
text_bytes (primitive kind) v are h = element_bytes (tag_of kind) (content_of kind v) (ltb-true (tag_of kind) 256 are) (content_bytes kind v h)
text_bytes (tagged tag s) v are h =
    let both = and_true (nat_lt tag 256) (is_in_bytes s) are in
    element_bytes tag (text s v) (ltb-true tag 256 both.0) (text_bytes s v both.1 h)
text_bytes (many item) v are h = absurd (search (rules, are))
text_bytes (further low high) v are h = none_are
text_bytes nothing v are h = none_are
text_bytes (field first rest) v are h =
    let both = and_true (is_in_bytes first) (is_in_bytes rest) are in
    both_are (text first v.0) (text rest v.1) (text_bytes first v.0 both.0 h.0) (text_bytes rest v.1 both.1 h.1)
text_bytes (option tag first rest) (None, w) are h =
    let both = and_true (nat_lt tag 256) (is_in_bytes first && is_in_bytes rest) are in
    text_bytes rest w (and_true (is_in_bytes first) (is_in_bytes rest) both.1).1 h.1
text_bytes (option tag first rest) (Some v, w) are h =
    let both = and_true (nat_lt tag 256) (is_in_bytes first && is_in_bytes rest) are in
    let inner = and_true (is_in_bytes first) (is_in_bytes rest) both.1 in
    both_are (element tag (text first v)) (text rest w)
    (element_bytes tag (text first v) (ltb-true tag 256 both.0) (text_bytes first v inner.0 h.0)) (text_bytes rest w inner.1 h.1)
