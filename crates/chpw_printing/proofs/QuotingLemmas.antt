-- What is printed is printed ASCII.
use Rattle.std.proofs.Common.{◌≡◌, ◌∙◌, ℕ, ◌+◌, ◌/◌, ◌%◌, ◌<◌, ◌^◌, suc, ℤ, pos, negsuc, true, List, [], ◌∷◌, ◌++◌, length, length-append, codes, refl, arith}
use Rattle.std.specs.List.{AllPass}
use Rattle.std.specs.Prelude.{slice_index}
use Rattle.std.proofs.lemmas.Bool.{and_from, and_parts, le-leb, leb-true, lt-ltb}
use Rattle.std.proofs.lemmas.List.Folds.{list_all-append}
use Rattle.std.proofs.lemmas.List.Sums.{AllPass-from_list_all}
use Rattle.std.specs.Fmt.{decimal, signed_decimal}
use Rattle.std.proofs.lemmas.Fmt.{decimal_by_steps, decimal_nonempty}
use lib.Signed.{mag}
use Rattle.hex.specs.Hex.{lower_digits, encode_lower, encode_with}
use Rattle.chpw_rules.specs.Limits.{range, is_in}
use Rattle.chpw_printing.specs.Quoting.{are_printed, are_graphic, is_field, escaped}

-- a digit's byte is printed
digit_graphic : (n : ℕ) → n < 16 → is_in (range 0x21 0x7e) (slice_index lower_digits n) ≡ true
digit_graphic n h =
    let all : AllPass (is_in (range 0x21 0x7e)) lower_digits = AllPass-from_list_all (is_in (range 0x21 0x7e)) lower_digits refl in
    all n 0 h

-- a byte's two digits
digits_graphic : (byte : ℕ) → byte < 256 → are_graphic (encode_lower (byte ∷ [])) ≡ true
unfolding encode_with
digits_graphic byte h =
    let high : byte / 16 < 16 = omega (arith, h) in
    let low : byte % 16 < 16 = omega arith in
    rw (digit_graphic (byte / 16) high) (rw (digit_graphic (byte % 16) low) refl)

pub escaped_graphic : (byte : ℕ) → byte < 256 → are_graphic (escaped byte) ≡ true
escaped_graphic byte h = digits_graphic byte h

in_wider : (byte : ℕ) → is_in (range 0x21 0x7e) byte ≡ true → is_in (range 0x20 0x7e) byte ≡ true
in_wider byte h =
    let parts = and_parts _ _ h in
    let low = leb-true 33 byte parts.0 in
    let first = le-leb 32 byte (omega (arith, low)) in
    and_from _ _ first parts.1

-- what is graphic is printed
pub graphic_printed : (text : List ℕ) → are_graphic text ≡ true → are_printed text ≡ true
graphic_printed [] h = refl
graphic_printed (byte ∷ rest) h =
    let parts = and_parts _ _ h in
    and_from _ _ (in_wider byte parts.0) (graphic_printed rest parts.1)

-- a digit after others
digit_after : (n : ℕ) (ds : List ℕ) → are_graphic ds ≡ true → are_graphic (ds ++ (48 + n % 10) ∷ []) ≡ true
digit_after n ds h =
    let low = le-leb 33 (48 + n % 10) (omega arith) in
    let high = le-leb (48 + n % 10) 126 (omega arith) in
    let one : are_graphic ((48 + n % 10) ∷ []) ≡ true = and_from _ _ (and_from _ _ low high) refl in
    list_all-append (is_in (range 0x21 0x7e)) ds ((48 + n % 10) ∷ []) ∙ and_from _ _ h one

-- a number's digits
pub decimal_graphic : (n : ℕ) → n < 2 ^ 64 → are_graphic (decimal n) ≡ true
decimal_graphic n h =
    decimal_by_steps (λ (_ : ℕ) (ds : List ℕ). are_graphic ds ≡ true)
    (λ k small. let low = le-leb 33 (48 + k) (omega arith) in
    let high = le-leb (48 + k) 126 (omega (arith, small)) in
    and_from _ _ (and_from _ _ low high) refl)
    (λ k ds _ front. digit_after k ds front) n h

pub signed_graphic : (z : ℤ) → mag z < 2 ^ 63 → are_graphic (signed_decimal z) ≡ true
signed_graphic (pos n) h = decimal_graphic n (omega (arith, h))
signed_graphic (negsuc n) h = and_from _ _ refl (decimal_graphic (suc n) (omega (arith, h)))

-- ---- fields

pub field_of : (text : List ℕ) → 0 < length text → are_graphic text ≡ true → is_field text ≡ true
field_of text some h = and_from _ _ (lt-ltb 0 (length text) some) h

pub decimal_field : (n : ℕ) → n < 2 ^ 64 → is_field (decimal n) ≡ true
decimal_field n h = field_of (decimal n) (decimal_nonempty n h) (decimal_graphic n h)

pub signed_field : (z : ℤ) → mag z < 2 ^ 63 → is_field (signed_decimal z) ≡ true
signed_field (pos n) h = decimal_field n (omega (arith, h))
signed_field (negsuc n) h =
    let some : 0 < suc (length (decimal (suc n))) = omega arith in
    field_of (45 ∷ decimal (suc n)) some (signed_graphic (negsuc n) h)

-- name and realm, with `@` between them
pub principal_field : (name realm : List ℕ) → are_graphic name ≡ true → are_graphic realm ≡ true
    → is_field (name ++ codes "@" ++ realm) ≡ true
principal_field name realm h g =
    let front : are_graphic (name ++ codes "@") ≡ true = list_all-append (is_in (range 0x21 0x7e)) name (codes "@") ∙ and_from _ _ h refl in
    let all : are_graphic (name ++ codes "@" ++ realm) ≡ true =
    list_all-append (is_in (range 0x21 0x7e)) (name ++ codes "@") realm ∙ and_from _ _ front g in
    let some : 0 < length (name ++ codes "@" ++ realm) =
    omega (arith, length-append (name ++ codes "@") realm, length-append name (codes "@")) in
    field_of (name ++ codes "@" ++ realm) some all
