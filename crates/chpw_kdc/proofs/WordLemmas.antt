-- Words with single spaces between them, and what names, numbers and keys read as.
use Rattle.std.proofs.Common.{◌≡◌, ◌∙◌, ap, refl, ℕ, zero, suc, ◌+◌, ◌/◌, ◌%◌, ◌^◌, ◌<◌, ◌==◌, nat_lt, nat_le, Bool, true, false}
use Rattle.std.proofs.Common.{not, ◌&&◌, bytes_eq, List, [], ◌∷◌, ◌++◌, length, map, take, drop, get_or, slice_index, codes, Some}
use Rattle.std.proofs.Common.{Result, Ok, arith, inl, inr, lit<}
use borrow.Author.Tests.{ltb-true}
use Rattle.std.proofs.lemmas.Bool.{and_parts, cases_lt}
use Rattle.std.proofs.lemmas.Bool.Decides.{nat_tests}
use Rattle.std.proofs.lemmas.Grind.{common_steps}
use Rattle.std.proofs.lemmas.List.Elements.{All-cons, All-nil, All-head, All-tail, All-append}
use Rattle.std.proofs.lemmas.List.Splits.{slice_split_none, slice_split_at}
use Rattle.std.proofs.lemmas.Str.{is_utf8-from_IsUtf8, IsUtf8-from_ascii}
use Rattle.std.proofs.lemmas.Str.Ascii.{IsAscii-from_all}
use Rattle.std.proofs.lemmas.Str.Parse.{IsNumeralModel, IsDigitsTest, FoldsDigits, numerals_by_fold}
use Rattle.std.proofs.lemmas.Fmt.{digits_decimal, digits_value-decimal, decimal_nonempty, first_decimal, decimal_digit}
use Rattle.std.specs.List.{All, AllByRecursion, join_with_byte, slice_split, list_all, position_or_len}
use Rattle.std.specs.Char.{is_ascii_digit, IsAsciiDigit}
use Rattle.std.specs.Fmt.{decimal}
use Rattle.std.specs.Str.{is_utf8}
use Rattle.hex.specs.Hex.{encode_lower, encode_with, lower_digits, IsBytes}
use Rattle.hex.proofs.HexLemmas.{decode_of-encode_lower, decode_sized-encode_lower}
use Rattle.chpw_rules.specs.declared.name.Name.{Name}
use Rattle.chpw_rules.specs.Names.{name_from}
use Rattle.chpw_kdc.specs.declared.fault.LineFault.{LineFault}
use Rattle.chpw_kdc.specs.declared.fields.KeyPair.{KeyPair}
use Rattle.chpw_kdc.specs.Lines.{name_text, first_word, is_lower_digit, is_lower_hex, part_of, parts_from, name_in, key_in}
use Rattle.chpw_kdc.specs.Lines.{keys_in, value_from, digits_value, number_in, version_from, version_in, ◌>>=◌}
use Rattle.chpw_kdc.specs.Spelling.{IsPart, IsSpelledName, IsVersion, AreKeys}

-- ---- words

abbrev pub Free : ℕ → List ℕ → Type 0
Free c w = All (λ (b : ℕ). (b == c) ≡ false) w

-- a byte of a word: ASCII, and no space
abbrev pub Plain : ℕ → Type 0
Plain b = (b < 128) × ((b == 32) ≡ false)

all_if : (P R : ℕ → Type 0) → ((b : ℕ) → P b → R b) → (w : List ℕ) → All P w → All R w
all_if P R f [] all = All-nil R
all_if P R f (b ∷ bs) all = All-cons R b bs (f b (All-head P b bs all)) (all_if P R f bs (All-tail P b bs all))

from_test : (P : ℕ → Type 0) (t : ℕ → Bool) → ((b : ℕ) → t b ≡ true → P b) → (w : List ℕ) → list_all t w ≡ true → All P w
from_test P t f [] h = All-nil P
from_test P t f (b ∷ bs) h =
    let p = and_parts (t b) (list_all t bs) h in
    All-cons P b bs (f b p.0) (from_test P t f bs p.1)

abbrev is_plain : ℕ → Bool
is_plain b = nat_lt b 128 && not (b == 32)

plain_of : (b : ℕ) → is_plain b ≡ true → Plain b
plain_of b h = by_space (b == 32) refl h
  where
    by_space : (s : Bool) → (b == 32) ≡ s → (nat_lt b 128 && not s) ≡ true → Plain b
    by_space true e g = absurd (no (nat_lt b 128) g)
      where
        no : (l : Bool) → (l && not true) ≡ true → ⊥
        no true k = cc
        no false k = cc
    by_space false e g = (ltb-true b 128 (and_parts (nat_lt b 128) true g).0, e)

-- a written word
pub plain_word : (w : List ℕ) → list_all is_plain w ≡ true → All Plain w
plain_word w h = from_test Plain is_plain plain_of w h

pub plain_free : (w : List ℕ) → All Plain w → Free 32 w
plain_free w all = all_if Plain (λ (b : ℕ). (b == 32) ≡ false) (λ b p. p.1) w all

pub plain_ascii : (w : List ℕ) → All Plain w → All (λ (b : ℕ). b < 128) w
plain_ascii w all = all_if Plain (λ (b : ℕ). b < 128) (λ b p. p.0) w all

same_byte : (c : ℕ) → (c == c) ≡ true
same_byte c = grind (arith, nat_tests, common_steps)

-- the words of a joined line
pub split_joined : (c : ℕ) (first : List ℕ) (ws : List (List ℕ)) → Free c first → AllByRecursion (Free c) ws
    → slice_split (λ (b : ℕ). b == c) (join_with_byte c (first ∷ ws)) ≡ first ∷ ws
split_joined c first [] f all = slice_split_none (λ (b : ℕ). b == c) first f
split_joined c first (next ∷ ws) f all =
    slice_split_at (λ (b : ℕ). b == c) first c (join_with_byte c (next ∷ ws)) f (same_byte c)
    ∙ ap (λ (ps : List (List ℕ)). first ∷ ps) (split_joined c next ws all.0 all.1)

place : (first rest : List ℕ) → Free 32 first → position_or_len (λ (b : ℕ). b == 32) (first ++ 32 ∷ rest) ≡ length first
place [] rest f = refl
place (b ∷ bs) rest f =
    let here : (b == 32) ≡ false = All-head (λ (x : ℕ). (x == 32) ≡ false) b bs f in
    let there = place bs rest (All-tail (λ (x : ℕ). (x == 32) ≡ false) b bs f) in
    rw here (omega (arith, there))

before_place : (first rest : List ℕ) → take (length first) (first ++ 32 ∷ rest) ≡ first
before_place first rest = grind (arith, common_steps)

after_place : (first rest : List ℕ) → drop (length first + 1) (first ++ 32 ∷ rest) ≡ rest
after_place [] rest = grind (arith, common_steps)
after_place (b ∷ bs) rest = grind (arith, common_steps, after_place bs rest)

within : (first rest : List ℕ) → nat_lt (length first) (length (first ++ 32 ∷ rest)) ≡ true
within first rest = grind (arith, nat_tests, common_steps)

-- the first word of a line of more than one
pub first_word_of : (first rest : List ℕ) → Free 32 first → first_word (first ++ 32 ∷ rest) ≡ Some (first, rest)
first_word_of first rest f = rw (place first rest f, within first rest, before_place first rest, after_place first rest)

pub joined_all : (P : ℕ → Type 0) (c : ℕ) → P c → (first : List ℕ) (ws : List (List ℕ)) → All P first → AllByRecursion (All P) ws
    → All P (join_with_byte c (first ∷ ws))
joined_all P c p first [] f all = f
joined_all P c p first (next ∷ ws) f all =
    All-append P first (c ∷ join_with_byte c (next ∷ ws)) f (All-cons P c (join_with_byte c (next ∷ ws)) p (joined_all P c p next ws all.0 all.1))

pub ascii_is_text : (bs : List ℕ) → All (λ (b : ℕ). b < 128) bs → is_utf8 bs ≡ true
ascii_is_text bs all = is_utf8-from_IsUtf8 bs (IsUtf8-from_ascii bs (IsAscii-from_all bs all))

-- ---- bytes in hexadecimal digits

abbrev all_lower : List ℕ → ℕ → Bool
all_lower t zero = true
all_lower t (suc n) = is_lower_digit (slice_index t n) && all_lower t n

all_lower-at : (t : List ℕ) (n k : ℕ) → all_lower t n ≡ true → k < n → is_lower_digit (slice_index t k) ≡ true
all_lower-at t zero k h lt = absurd (omega arith)
all_lower-at t (suc n) k h lt =
    let parts = and_parts (is_lower_digit (slice_index t n)) (all_lower t n) h in
    elim (cases_lt k n) [
      | inl below ↦ all_lower-at t n k parts.1 below
      | inr top ↦
          let e : k ≡ n = omega arith in
          rw e parts.0
    ]

lower_at : (k : ℕ) → k < 16 → is_lower_digit (slice_index lower_digits k) ≡ true
lower_at k lt = all_lower-at lower_digits 16 k refl lt

pub lower_hex : (bs : List ℕ) → IsBytes bs → is_lower_hex (encode_lower bs) ≡ true
unfolding encode_with
lower_hex [] bytes = refl
lower_hex (b ∷ bs) bytes =
    let byte : b < 256 = bytes 0 in
    let high : is_lower_digit (slice_index lower_digits (b / 16)) ≡ true = lower_at (b / 16) (omega arith) in
    let low : is_lower_digit (slice_index lower_digits (b % 16)) ≡ true = lower_at (b % 16) (omega arith) in
    let rest = lower_hex bs (λ i. bytes (suc i)) in
    rw (high, low) rest

lower_plain : (b : ℕ) → is_lower_digit b ≡ true → Plain b
lower_plain b h = (grind (arith, nat_tests, common_steps), grind (arith, nat_tests, common_steps))

lower_free : (b : ℕ) → is_lower_digit b ≡ true → (b == 47) ≡ false
lower_free b h = grind (arith, nat_tests, common_steps)

pub hex_plain : (bs : List ℕ) → IsBytes bs → All Plain (encode_lower bs)
hex_plain bs bytes = from_test Plain is_lower_digit lower_plain (encode_lower bs) (lower_hex bs bytes)

hex_free : (bs : List ℕ) → IsBytes bs → Free 47 (encode_lower bs)
hex_free bs bytes = from_test (λ (b : ℕ). (b == 47) ≡ false) is_lower_digit lower_free (encode_lower bs) (lower_hex bs bytes)

pub key_read : (size : ℕ) (key : List ℕ) → length key ≡ size → IsBytes key → key_in size (encode_lower key) ≡ Ok key
key_read size key long bytes = rw (lower_hex key bytes, decode_sized-encode_lower key size long bytes)

pub keys_read : (first second : List ℕ) → AreKeys first second
    → keys_in (encode_lower first) (encode_lower second) ≡ Ok (record { aes256 = first; aes128 = second })
unfolding keys_in
keys_read first second k =
    ap (λ (r : Result (List ℕ) LineFault). r >>= (λ a.
    key_in 16 (encode_lower second) >>= (λ b. Ok (let p : KeyPair = record { aes256 = a; aes128 = b } in p)))) (key_read 32 first k.0 k.1)
    ∙ ap (λ (r : Result (List ℕ) LineFault). r >>= (λ b. Ok (let p : KeyPair = record { aes256 = first; aes128 = b } in p))) (key_read 16 second k.2 k.3)

-- ---- names

part_read : (part : List ℕ) → IsPart part → part_of (encode_lower part) ≡ Ok part
unfolding encode_with
part_read [] p = absurd (omega (arith, p.0))
part_read (b ∷ bs) p = rw (lower_hex (b ∷ bs) p.1, decode_of-encode_lower (b ∷ bs) p.1)

parts_read : (parts : List (List ℕ)) → AllByRecursion IsPart parts → parts_from (map encode_lower parts) ≡ Ok parts
parts_read [] all = refl
parts_read (part ∷ parts) all =
    ap (λ (r : Result (List ℕ) LineFault). r >>= (λ p. parts_from (map encode_lower parts) >>= (λ ps. Ok (p ∷ ps)))) (part_read part all.0)
    ∙ ap (λ (r : Result (List (List ℕ)) LineFault). r >>= (λ ps. Ok (part ∷ ps))) (parts_read parts all.1)

all_free : (parts : List (List ℕ)) → AllByRecursion IsPart parts → AllByRecursion (Free 47) (map encode_lower parts)
all_free [] all = tt
all_free (part ∷ parts) all = (hex_free part all.0.1, all_free parts all.1)

all_plain : (parts : List (List ℕ)) → AllByRecursion IsPart parts → AllByRecursion (All Plain) (map encode_lower parts)
all_plain [] all = tt
all_plain (part ∷ parts) all = (hex_plain part all.0.1, all_plain parts all.1)

name_split : (parts : List (List ℕ)) → 0 < length parts → AllByRecursion IsPart parts
    → slice_split (λ (b : ℕ). b == 47) (name_text parts) ≡ map encode_lower parts
name_split [] some all = absurd (omega arith)
name_split (part ∷ parts) some all = split_joined 47 (encode_lower part) (map encode_lower parts) (hex_free part all.0.1) (all_free parts all.1)

pub name_read : (name : Name) → IsSpelledName name → name_in (name_text name.parts) ≡ Ok name
unfolding name_in
name_read name s =
    ap (λ (r : Result (List (List ℕ)) LineFault). r >>= (λ ps. Ok (name_from ps)))
    (ap parts_from (name_split name.parts s.0 s.1) ∙ parts_read name.parts s.1)

text_plain : (parts : List (List ℕ)) → 0 < length parts → AllByRecursion IsPart parts → All Plain (name_text parts)
text_plain [] some all = absurd (omega arith)
text_plain (part ∷ parts) some all =
    joined_all Plain 47 (lit< tt, refl) (encode_lower part) (map encode_lower parts) (hex_plain part all.0.1) (all_plain parts all.1)

pub name_plain : (name : Name) → IsSpelledName name → All Plain (name_text name.parts)
name_plain name s = text_plain name.parts s.0 s.1

-- ---- numbers

digit_in : (c : ℕ) → is_ascii_digit c ≡ true → IsAsciiDigit c
digit_in c h = grind (arith, nat_tests, common_steps)

tells : IsDigitsTest (λ (ds : List ℕ). list_all is_ascii_digit ds ≡ true)
tells = record {
  empty = refl;
  parts = λ c cs e. (let k = and_parts (is_ascii_digit c) (list_all is_ascii_digit cs) e in (digit_in c k.0, k.1));
  more = λ c cs k e. (let d : is_ascii_digit c ≡ true = grind (arith, nat_tests, common_steps) in rw d e);
}

folds : FoldsDigits value_from
folds = record { empty = λ n. refl; more = λ n c cs k. ap (λ (m : ℕ). value_from m cs) (omega arith) }

own : IsNumeralModel (λ (ds : List ℕ). list_all is_ascii_digit ds ≡ true) (value_from 0)
own = numerals_by_fold (λ (ds : List ℕ). list_all is_ascii_digit ds ≡ true) tells value_from folds

digit_plain : (b : ℕ) → is_ascii_digit b ≡ true → Plain b
digit_plain b h = (grind (arith, nat_tests, common_steps), grind (arith, nat_tests, common_steps))

pub number_plain : (n : ℕ) → n < 2 ^ 32 → All Plain (decimal n)
number_plain n small =
    let wide : n < 2 ^ 64 = omega arith in
    from_test Plain is_ascii_digit digit_plain (decimal n) (digits_decimal own n wide)

value_read : (n : ℕ) → n < 2 ^ 32 → digits_value (decimal n) ≡ Some n
value_read n small =
    let wide : n < 2 ^ 64 = omega arith in
    let fits : nat_le n 4294967295 ≡ true = grind (arith, nat_tests, common_steps) in
    rw (digits_decimal own n wide, digits_value-decimal own n wide, fits)

number_from : (ds : List ℕ) (n : ℕ) → 0 < length ds → 48 < get_or ds 0 0 → digits_value ds ≡ Some n → number_in ds ≡ Some n
number_from [] n some first h = absurd (omega arith)
number_from (d ∷ []) n some first h = h
number_from (d ∷ e ∷ ds) n some first h =
    let other : (d == 48) ≡ false = grind (arith, nat_tests, common_steps) in
    rw other h

pub number_read : (n : ℕ) → n < 2 ^ 32 → number_in (decimal n) ≡ Some n
number_read zero small = rw (decimal_digit 0 (lit< tt)) refl
number_read (suc n) small =
    let wide : suc n < 2 ^ 64 = omega arith in
    number_from (decimal (suc n)) (suc n) (decimal_nonempty (suc n) wide) (first_decimal (suc n) (omega arith) wide) (value_read (suc n) small)

pub version_read : (n : ℕ) → IsVersion n → version_in (decimal n) ≡ Ok n
unfolding version_in
version_read n v =
    let some : (n == 0) ≡ false = grind (arith, nat_tests, common_steps, v.0) in
    ap version_from (number_read n v.1) ∙ rw some refl

-- ---- a name is no `-`

lower_no_dash : (b : ℕ) → is_lower_digit b ≡ true → (b == 45) ≡ false
lower_no_dash b h = grind (arith, nat_tests, common_steps)

hex_dashless : (bs : List ℕ) → IsBytes bs → Free 45 (encode_lower bs)
hex_dashless bs bytes = from_test (λ (b : ℕ). (b == 45) ≡ false) is_lower_digit lower_no_dash (encode_lower bs) (lower_hex bs bytes)

all_dashless : (parts : List (List ℕ)) → AllByRecursion IsPart parts → AllByRecursion (Free 45) (map encode_lower parts)
all_dashless [] all = tt
all_dashless (part ∷ parts) all = (hex_dashless part all.0.1, all_dashless parts all.1)

text_dashless : (parts : List (List ℕ)) → 0 < length parts → AllByRecursion IsPart parts → Free 45 (name_text parts)
text_dashless [] some all = absurd (omega arith)
text_dashless (part ∷ parts) some all =
    joined_all (λ (b : ℕ). (b == 45) ≡ false) 47 refl (encode_lower part) (map encode_lower parts) (hex_dashless part all.0.1) (all_dashless parts all.1)

no_dash : (w : List ℕ) → Free 45 w → bytes_eq w (codes "-") ≡ false
no_dash [] f = refl
no_dash (b ∷ bs) f = rw (All-head (λ (x : ℕ). (x == 45) ≡ false) b bs f) refl

pub name_dashless : (name : Name) → IsSpelledName name → bytes_eq (name_text name.parts) (codes "-") ≡ false
name_dashless name s = no_dash (name_text name.parts) (text_dashless name.parts s.0 s.1)
