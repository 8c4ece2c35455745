-- Numbers by their bytes, in two's complement.
use Rattle.std.proofs.Common.{◌≡◌, ℕ, suc, ◌+◌, ◌*◌, ◌^◌, ◌<◌, ◌≤◌, Bool, true, false, cond, not, ◌||◌, ◌&&◌}
use Rattle.std.proofs.Common.{List, [], ◌∷◌, length, take, get_or, refl, sym, ap, subst, ◌∙◌, arith, add-one}
use Rattle.std.proofs.Common.{nat_lt, ltb, eqb, leb, if◌then◌else◌, ℤ, pos, negsuc, ◌-◌, ◌+ℤ◌, ◌-ℤ◌, ◌*ℤ◌}
use Rattle.std.proofs.Common.{◌<ℤ◌, ◌≤ℤ◌, w64, FitsSigned, to_z, of_z, Result, Ok, Err, ◌⊎◌, inl, inr}
use Rattle.std.specs.Prelude.{int_lt}
use Rattle.std.proofs.lemmas.List.{take_more}
use Rattle.std.proofs.Math.Nat.{pow-zero, pow-succ', pow-le-pow_right, mul-le-mul_right, mul_assoc, add-mul}
use Rattle.std.proofs.lemmas.Bool.{cond_both, ltb-true, ltb-false, lt-ltb, le-ltb, eqb-true, leb-true}
use Rattle.std.proofs.lemmas.Bool.{or_cases, or_parts, and_parts, or_right, cases_Bool, not-false}
use Rattle.std.proofs.lemmas.Bool.Decides.{nat_tests}
use Rattle.std.proofs.lemmas.Int.{ints, to_z-of_z, by_lt_z}
use Rattle.std.proofs.lemmas.Int.Digits.{number_after_append, number_lt}
use Rattle.std.specs.Int.{to_be_bytes, from_be_bytes, cast_unsigned, byte_at, bytes_high_first}
use Rattle.std.proofs.lemmas.Nat.{from_be_bytes-to_be_bytes_8}
use Rattle.std.specs.Int.Digits.{number_from_digits_after, AllBelowBase}
use Rattle.jiff_core.proofs.SignedLemmas.{signed_arith}
use Rattle.krb_codec.specs.declared.fault.DerFault.{DerFault}
use Rattle.krb_codec.specs.declared.fault.FaultKind.TheVariants.{BadInteger, OutOfRange}
use Rattle.krb_codec.specs.Faults.{fault}
use Rattle.krb_codec.proofs.StepLemmas.{guard_ok, ok_is}
use Rattle.krb_codec.specs.Integers.{number, signed, is_shortest_integer, repeats_sign, integer_in}
use Rattle.krb_codec.specs.Integers.{IsInteger, without_sign, integer_octets, word_of, in_word}
use Rattle.krb_codec.specs.Integers.{sequence_number_in, IsSequenceNumber, least_sequence_number}
use Rattle.krb_codec.specs.Integers.{greatest_sequence_number, sequence_number_octets}

pub pow_more : (i : ℕ) → 256 ^ (i + 1) ≡ 256 * 256 ^ i
pow_more i = rw add-one (pow-succ' 256 i)

pub pow_few : (i : ℕ) → i < 7 → 256 ^ i ≤ 2 ^ 48
pow_few i lt = let le : 256 ^ i ≤ 256 ^ 6 = pow-le-pow_right (let some : 0 < 256 = omega arith in some) {i = i} {j = 6}
    (let le : i ≤ 6 = omega arith in le) in omega (arith, le)

-- what a first byte counts less in two's complement, at k bytes
abbrev pub sign_weight : ℕ → ℕ → ℕ
sign_weight a k = if nat_lt a 128 then 0 else 256 ^ k

chosen_times : (b : Bool) (p q : ℕ) → q ≡ 256 * p → (if b then 0 else q) ≡ 256 * (if b then 0 else p)
chosen_times true p q e = refl
chosen_times false p q e = e

pub sign_weight_more : (a k : ℕ) → sign_weight a (k + 1) ≡ 256 * sign_weight a k
sign_weight_more a k = chosen_times (nat_lt a 128) (256 ^ k) (256 ^ (k + 1)) (pow_more k)

pub number_more : (n i : ℕ) (bytes : List ℕ) → i < length bytes → number_from_digits_after 256 n (take (i + 1) bytes)
    ≡ number_from_digits_after 256 n (take i bytes) * 256 + get_or bytes i 0
number_more n i bytes lt = ap (number_from_digits_after 256 n) (take_more bytes i 0 lt) ∙ number_after_append 256 n (take i bytes) (get_or bytes i 0 ∷ [])

pub times_fits : (n : ℤ) (p : ℕ) → p ≤ 2 ^ 48 → pos 0 ≤ℤ (n +ℤ pos (128 * p)) → n <ℤ pos (128 * p) → FitsSigned w64 (pos 256 *ℤ n)
times_fits n p few above below = omega (arith, ints)

-- one byte more, as an `i64` computes it
pub one_more : (n r : ℤ) (b p : ℕ) → r ≡ pos b → b < 256 → p ≤ 2 ^ 48 → pos 0 ≤ℤ (n +ℤ pos (128 * p)) → n <ℤ pos (128 * p)
    → to_z w64 (of_z w64 (to_z w64 (of_z w64 (pos 256 *ℤ n)) +ℤ to_z w64 (of_z w64 r))) ≡ pos 256 *ℤ n +ℤ pos b
one_more n r b p is small few above below =
    let f : FitsSigned w64 (pos 256 *ℤ n) = times_fits n p few above below in
    let g : FitsSigned w64 (pos b) = omega (arith, ints) in
    let h : FitsSigned w64 (pos 256 *ℤ n +ℤ pos b) = omega (arith, ints) in
    rw (is, to_z-of_z w64 (pos 256 *ℤ n) f, to_z-of_z w64 (pos b) g, to_z-of_z w64 (pos 256 *ℤ n +ℤ pos b) h) refl

pub value_more : (n : ℤ) (b w v w2 v2 : ℕ) → n +ℤ pos w ≡ pos v → w2 ≡ 256 * w → v2 ≡ v * 256 + b → (pos 256 *ℤ n +ℤ pos b) +ℤ pos w2 ≡ pos v2
value_more n b w v w2 v2 is more next = omega (arith, ints)

-- ---- what contents mean

pub not_below : (a b : ℤ) → int_lt a b ≡ false → b ≤ℤ a
not_below a b e = omega (arith, signed_arith)

pub false_below : (a b : ℤ) → b ≤ℤ a → int_lt a b ≡ false
false_below a b le = by_lt_z a b (λ lt. absurd (omega (arith, ints))) (λ _. grind (arith, ints))

pub true_below : (a b : ℤ) → a <ℤ b → int_lt a b ≡ true
true_below a b lt = grind (arith, ints)

-- what is read is spelled
pub integer_sound : (low high : ℤ) (place : ℕ) (content : List ℕ) (n : ℤ) → integer_in low high place content ≡ Ok n → IsInteger low high content n
unfolding integer_in
integer_sound low high place content n e =
    let g = guard_ok (not (is_shortest_integer content)) _ _ n e in
    let h = guard_ok (int_lt (signed content) low || int_lt high (signed content)) _ _ n g.1 in
    let within = or_parts (int_lt (signed content) low) (int_lt high (signed content)) h.0 in
    let is = ok_is (signed content) n h.1 in
    subst (IsInteger low high content) is (not-false _ g.0, refl, not_below _ _ within.0, not_below _ _ within.1)

-- what is spelled is read
pub integer_complete : (low high : ℤ) (place : ℕ) (content : List ℕ) (n : ℤ) → IsInteger low high content n → integer_in low high place content ≡ Ok n
unfolding integer_in
integer_complete low high place content n h =
    let first : int_lt (signed content) low ≡ false = false_below _ _ (subst (λ m. low ≤ℤ m) h.1 h.2) in
    let second : int_lt high (signed content) ≡ false = false_below _ _ (subst (λ m. m ≤ℤ high) h.1 h.3) in
    rw (h.0, first, second, ← h.1) refl

pub integer_bad : (low high : ℤ) (place : ℕ) (content : List ℕ)
    → is_shortest_integer content ≡ false → integer_in low high place content ≡ fault place BadInteger
unfolding integer_in
integer_bad low high place content bad = rw bad refl

pub integer_outside : (low high : ℤ) (place : ℕ) (content : List ℕ) → is_shortest_integer content ≡ true
    → (signed content <ℤ low) ⊎ (high <ℤ signed content) → integer_in low high place content ≡ fault place OutOfRange
unfolding integer_in
integer_outside low high place content good (inl below) = let t = true_below _ _ below in rw (good, t) refl
integer_outside low high place content good (inr above) =
    let t : (int_lt (signed content) low || int_lt high (signed content)) ≡ true = or_right _ _ (true_below _ _ above) in
    rw (good, t) refl

-- ---- long contents

below_from : (bytes : List ℕ) → ((i : ℕ) → get_or bytes i 0 < 256) → AllBelowBase 256 bytes
below_from [] each = tt
below_from (b ∷ bytes) each = (each 0, below_from bytes (λ i. each (suc i)))

pub number_after_split : (n : ℕ) (bytes : List ℕ) → number_from_digits_after 256 n bytes ≡ n * 256 ^ length bytes + number bytes
number_after_split n [] = omega (arith, pow-zero 256)
number_after_split n (b ∷ bytes) =
    let one = number_after_split (n * 256 + b) bytes in
    let zero_first = number_after_split (0 + b) bytes in
    let p : 256 ^ suc (length bytes) ≡ 256 * 256 ^ length bytes = pow-succ' 256 (length bytes) in
    let parts : (n * 256 + b) * 256 ^ length bytes ≡ n * (256 * 256 ^ length bytes) + (0 + b) * 256 ^ length bytes =
    omega (arith, add-mul (n * 256) b (256 ^ length bytes), mul_assoc n 256 (256 ^ length bytes)) in
    rw p (omega (arith, one, zero_first, parts))

-- a first pair of bytes that a shortest form begins with, as a number
pub shortest_pair : (a b : ℕ) (bytes : List ℕ) → a < 256 → b < 256 → is_shortest_integer (a ∷ b ∷ bytes) ≡ true
    → (a < 128 → 128 ≤ (0 + a) * 256 + b) × (128 ≤ a → (0 + a) * 256 + b < 65408)
shortest_pair a b bytes fa fb e = grind (arith, nat_tests)

-- a shortest form of more than eight bytes lies outside the range of an `i64`
pub long_outside : (low high : ℤ) (content : List ℕ)
    → ((i : ℕ) → get_or content i 0 < 256) → FitsSigned w64 low → FitsSigned w64 high
    → is_shortest_integer content ≡ true → 8 < length content → (signed content <ℤ low) ⊎ (high <ℤ signed content)
long_outside low high [] each fl fh good long = absurd (omega arith)
long_outside low high (a ∷ []) each fl fh good long = absurd (omega arith)
long_outside low high (a ∷ b ∷ bytes) each fl fh good long =
    let q = 256 ^ length bytes in
    let m = (0 + a) * 256 + b in
    let big : 256 ^ 7 ≤ q = pow-le-pow_right (let some : 0 < 256 = omega arith in some) {i = 7} {j = length bytes}
    (let le : 7 ≤ length bytes = omega arith in le) in
    let pair = shortest_pair a b bytes (each 0) (each 1) good in
    let split = number_after_split m bytes in
    let rest : number bytes < q = number_lt 256 bytes (below_from bytes (λ i. each (suc (suc i)))) in
    let p : 256 ^ suc (suc (length bytes)) ≡ 65536 * q =
    let p1 = pow-succ' 256 (suc (length bytes)) in let p2 = pow-succ' 256 (length bytes) in omega (arith, p1, p2) in
    cond_both (ltb a 128) (pos (number (a ∷ b ∷ bytes))) (pos (number (a ∷ b ∷ bytes)) -ℤ pos (256 ^ length (a ∷ b ∷ bytes))) (λ n. (n <ℤ low) ⊎ (high <ℤ n))
    (λ e. let small = ltb-true a 128 e in let more = mul-le-mul_right {m = 128} {n = m} q (pair.0 small) in inr (omega (arith, ints, more, split, big)))
    (λ e. let not_small = ltb-false a 128 e in let less = mul-le-mul_right {m = m} {n = 65407} q (let le : m
    ≤ 65407 = omega (arith, pair.1 not_small) in le) in inl (omega (arith, ints, less, split, big, rest, p)))

-- ---- the shortest form

-- a byte that only repeats the sign counts for nothing
pub signed_without : (a : ℕ) (bytes : List ℕ) → repeats_sign a bytes ≡ true → signed (a ∷ bytes) ≡ signed bytes
signed_without a [] e = absurd cc
signed_without a (b ∷ bytes) e =
    elim (or_cases (eqb a 0 && ltb b 128) (eqb a 255 && leb 128 b) e) [
      | inl zeros ↦
          let parts = and_parts (eqb a 0) (ltb b 128) zeros in
          let is = eqb-true a 0 parts.0 in
          let positive : ltb a 128 ≡ true = lt-ltb a 128 (omega (arith, is)) in
          let same : (0 + a) * 256 + b ≡ 0 + b = omega (arith, is) in
          rw (positive, parts.1, same) refl
      | inr ones ↦
          let parts = and_parts (eqb a 255) (leb 128 b) ones in
          let is = eqb-true a 255 parts.0 in
          let high = leb-true 128 b parts.1 in
          let negative : ltb a 128 ≡ false = le-ltb a 128 (omega (arith, is)) in
          let negative_too : ltb b 128 ≡ false = le-ltb b 128 (omega (arith, high)) in
          let q = 256 ^ length bytes in
          let first = number_after_split ((0 + a) * 256 + b) bytes in
          let second = number_after_split (0 + b) bytes in
          let p1 = pow-succ' 256 (suc (length bytes)) in
          let p2 = pow-succ' 256 (length bytes) in
          let parts_of : ((0 + a) * 256 + b) * q ≡ 65280 * q + (0 + b) * q = omega (
            arith,
            is,
            add-mul 65280 (0 + b) q,
            ap (λ m. m * q) (let e : (0 + a) * 256 + b ≡ 65280 + (0 + b) = omega (arith, is) in e),
          ) in
          rw (negative, negative_too) (omega (arith, ints, first, second, p1, p2, parts_of))
    ]

pub signed-without_sign : (bytes : List ℕ) → signed (without_sign bytes) ≡ signed bytes
signed-without_sign [] = refl
signed-without_sign (a ∷ bytes) =
    elim (cases_Bool (repeats_sign a bytes)) [
      | inl e ↦ rw e (signed-without_sign bytes ∙ sym (signed_without a bytes e))
      | inr e ↦ rw e refl
    ]

pub shortest-without_sign : (a : ℕ) (bytes : List ℕ) → is_shortest_integer (without_sign (a ∷ bytes)) ≡ true
shortest-without_sign a [] = refl
shortest-without_sign a (b ∷ bytes) =
    elim (cases_Bool (repeats_sign a (b ∷ bytes))) [
      | inl e ↦ rw e (shortest-without_sign b bytes)
      | inr e ↦ rw (e, e) refl
    ]

-- eight bytes
pub number_of_eight : (a b c d e f g h : ℕ) → number (a ∷ b ∷ c ∷ d ∷ e ∷ f ∷ g ∷ h ∷ []) ≡ from_be_bytes w64 (a ∷ b ∷ c ∷ d ∷ e ∷ f ∷ g ∷ h ∷ [])
number_of_eight a b c d e f g h = omega arith

pub eight_again : (m : ℕ) → m < 2 ^ 64 → number (to_be_bytes w64 m) ≡ m
eight_again m lt =
    number_of_eight (byte_at 7 m) (byte_at 6 m) (byte_at 5 m)
    (byte_at 4 m) (byte_at 3 m) (byte_at 2 m) (byte_at 1 m) (byte_at 0 m) ∙ from_be_bytes-to_be_bytes_8 m lt

signed_by : (a : ℕ) (bytes : List ℕ) (m : ℕ) → length bytes ≡ 7 → number (a ∷ bytes) ≡ m → signed (a ∷ bytes) ≡ cond (ltb a 128) (pos m) (pos m -ℤ pos (2 ^ 64))
signed_by a bytes m seven is = rw (seven, is) refl

-- the bits of a number in two's complement, as bytes
pub signed-to_be_bytes : (n : ℤ) → FitsSigned w64 n → signed (to_be_bytes w64 (cast_unsigned w64 n)) ≡ n
signed-to_be_bytes (pos k) fits =
    let lt : k < 2 ^ 63 = fits.sfits in
    let positive : ltb (byte_at 7 k) 128 ≡ true = lt-ltb _ _ (omega arith) in
    signed_by (byte_at 7 k) (bytes_high_first 7 k) k refl (eight_again k (omega arith)) ∙ rw positive refl
signed-to_be_bytes (negsuc k) fits =
    let lt : k < 2 ^ 63 = fits.sfits in
    let m = 2 ^ 64 - suc k in
    let negative : ltb (byte_at 7 m) 128 ≡ false = le-ltb _ _ (let high : 2 ^ 63 ≤ m = omega arith in let fit : m < 2 ^ 64 = omega arith in omega arith) in
    let is : pos m -ℤ pos (2 ^ 64) ≡ negsuc k = omega (arith, ints) in
    signed_by (byte_at 7 m) (bytes_high_first 7 m) m refl (eight_again m (omega arith)) ∙ rw negative is

-- the text of a number in range spells it
pub integer_spelled : (low high n : ℤ) → FitsSigned w64 n → low ≤ℤ n → n ≤ℤ high → IsInteger low high (integer_octets n) n
unfolding integer_octets
integer_spelled low high n fits above below =
    let m = cast_unsigned w64 n in
    let bytes = to_be_bytes w64 m in
    (shortest-without_sign (byte_at 7 m) (bytes_high_first 7 m), sym (signed-without_sign bytes ∙ signed-to_be_bytes n fits), above, below)

-- ---- sequence numbers

read_number : (read : Result ℤ DerFault) (n : ℕ) → in_word read ≡ Ok n → (m : ℤ) × (read ≡ Ok m) × (n ≡ word_of m)
read_number (Ok m) n e = (m, refl, sym (ok_is (word_of m) n e))
read_number (Err d) n e = absurd cc

-- what is read is spelled
pub sequence_number_sound : (place : ℕ) (content : List ℕ) (n : ℕ) → sequence_number_in place content ≡ Ok n → IsSequenceNumber content n
unfolding sequence_number_in
sequence_number_sound place content n e =
    let step = read_number (integer_in least_sequence_number greatest_sequence_number place content) n e in
    let h = integer_sound least_sequence_number greatest_sequence_number place content step.0 step.1 in
    let least : least_sequence_number ≤ℤ signed content = subst (λ m. least_sequence_number ≤ℤ m) h.1 h.2 in
    let greatest : signed content ≤ℤ greatest_sequence_number = subst (λ m. m ≤ℤ greatest_sequence_number) h.1 h.3 in
    (h.0, step.2 ∙ ap word_of h.1, least, greatest)

-- what is spelled is read
pub sequence_number_complete : (place : ℕ) (content : List ℕ) (n : ℕ) → IsSequenceNumber content n → sequence_number_in place content ≡ Ok n
unfolding sequence_number_in
sequence_number_complete place content n h =
    let read = integer_complete least_sequence_number greatest_sequence_number place content (signed content) (h.0, refl, h.2, h.3) in
    ap in_word read ∙ ap (λ (m : ℕ). Ok m) (sym h.1)

-- the text of a sequence number spells it
pub sequence_number_spelled : (n : ℕ) → n < 2 ^ 32 → IsSequenceNumber (sequence_number_octets n) n
sequence_number_spelled n lt =
    let h = integer_spelled least_sequence_number greatest_sequence_number (pos n) (omega (arith, ints)) (omega (arith, ints)) (omega (arith, ints)) in
    let least : least_sequence_number ≤ℤ signed (sequence_number_octets n) = subst (λ m. least_sequence_number ≤ℤ m) h.1 h.2 in
    let greatest : signed (sequence_number_octets n) ≤ℤ greatest_sequence_number = subst (λ m. m ≤ℤ greatest_sequence_number) h.1 h.3 in
    let same : n ≡ word_of (pos n) = omega arith in
    (h.0, same ∙ ap word_of h.1, least, greatest)
