-- Flags and the contents that spell them.
use Rattle.std.proofs.Common.{◌≡◌, ℕ, ◌<◌, ◌^◌, ◌+◌, ◌*◌, ◌/◌, ◌%◌, false, List, [], ◌∷◌, Ok, refl}
use Rattle.std.proofs.Common.{sym, ap, ◌∙◌, arith, zero, suc, ◌-◌, get_or, one-add, zero-add, inl, inr}
use Rattle.std.specs.Int.{bit_at}
use Rattle.std.proofs.lemmas.Bool.{eq-eqb, both_ways, cases_lt}
use Rattle.std.proofs.lemmas.Nat.Bits.{bit_at_cat_low, bit_at_cat_high}
use Rattle.krb_codec.proofs.StepLemmas.{guard_then, ok_is}
use Rattle.krb_codec.specs.BitStrings.{is_bit_string, ends_in_zeros, first_word, flags_of, bits_in, IsBits, bits_octets}

-- what is read is spelled
pub bits_sound : (place : ℕ) (content : List ℕ) (flags : ℕ) → bits_in place content ≡ Ok flags → IsBits content flags
unfolding bits_in
bits_sound place content flags e = let g = guard_then (is_bit_string content) _ (Ok (flags_of content)) flags e in (g.0, sym (ok_is _ _ g.1))

-- what is spelled is read
pub bits_complete : (place : ℕ) (content : List ℕ) (flags : ℕ) → IsBits content flags → bits_in place content ≡ Ok flags
unfolding bits_in
bits_complete place content flags h = rw (h.0, ← h.1) refl

-- the text of 32 flags spells them
pub bits_spelled : (flags : ℕ) → flags < 2 ^ 32 → IsBits (bits_octets flags) flags
unfolding bits_octets ends_in_zeros first_word
bits_spelled flags lt = (eq-eqb _ _ (omega arith), omega arith)

-- ---- bits

pub first_word_is : (bytes : List ℕ) → first_word bytes
    ≡ (((0 + get_or bytes 0 0) * 2 ^ 8 + get_or bytes 1 0) * 2 ^ 8 + get_or bytes 2 0) * 2 ^ 8 + get_or bytes 3 0
unfolding first_word
first_word_is [] = refl
first_word_is (a ∷ []) = refl
first_word_is (a ∷ b ∷ []) = refl
first_word_is (a ∷ b ∷ c ∷ []) = refl
first_word_is (a ∷ b ∷ c ∷ d ∷ bytes) = refl

-- bit k of a number whose lowest byte is b is bit k of b, or a bit of what stands above
low_byte : (n b k : ℕ) → k < 8 → bit_at (n * 2 ^ 8 + b) k ≡ bit_at b k
low_byte n b k lt = bit_at_cat_low n 8 b k lt

above_byte : (n b k : ℕ) → b < 256 → bit_at (n * 2 ^ 8 + b) (8 + k) ≡ bit_at n k
above_byte n b k lt = let less : 8 + k - 8 ≡ k = omega arith in bit_at_cat_high n 8 b (8 + k) lt (omega arith) ∙ ap (bit_at n) less

-- a bit of four bytes, the first the highest
word_bit : (a b c d i : ℕ) → b < 256 → c < 256 → d < 256 → i < 32
    → bit_at (((a * 2 ^ 8 + b) * 2 ^ 8 + c) * 2 ^ 8 + d) (31 - i) ≡ bit_at (get_or (a ∷ b ∷ c ∷ d ∷ []) (i / 8) 0) (7 - i % 8)
word_bit a b c d i sb sc sd lt =
    let k = 7 - i % 8 in
    let bytes : List ℕ = a ∷ b ∷ c ∷ d ∷ [] in
    let third = (a * 2 ^ 8 + b) * 2 ^ 8 + c in
    let whole = third * 2 ^ 8 + d in
    elim (cases_lt i 8) [
      | inl first ↦
          let q : i / 8 ≡ 0 = omega arith in
          let place : 31 - i ≡ 8 + (8 + (8 + k)) = omega arith in
          ap (bit_at whole) place ∙ above_byte third d (8 + (8 + k)) sd ∙ above_byte (a * 2 ^ 8 + b) c (8 + k) sc
          ∙ above_byte a b k sb ∙ ap (λ j. bit_at (get_or bytes j 0) k) (sym q)
      | inr later ↦ elim (cases_lt i 16) [
        | inl second ↦
            let q : i / 8 ≡ 1 = omega arith in
            let place : 31 - i ≡ 8 + (8 + k) = omega arith in
            ap (bit_at whole) place ∙ above_byte third d (8 + k) sd ∙ above_byte (a * 2 ^ 8 + b) c k sc
            ∙ low_byte a b k (omega arith) ∙ ap (λ j. bit_at (get_or bytes j 0) k) (sym q)
        | inr later ↦ elim (cases_lt i 24) [
          | inl third_byte ↦
              let q : i / 8 ≡ 2 = omega arith in
              let place : 31 - i ≡ 8 + k = omega arith in
              ap (bit_at whole) place ∙ above_byte third d k sd ∙ low_byte (a * 2 ^ 8 + b) c k (omega arith) ∙ ap (λ j. bit_at (get_or bytes j 0) k) (sym q)
          | inr last ↦
              let q : i / 8 ≡ 3 = omega arith in
              let place : 31 - i ≡ k = omega arith in
              ap (bit_at whole) place ∙ low_byte third d k (omega arith) ∙ ap (λ j. bit_at (get_or bytes j 0) k) (sym q)
        ]
      ]
    ]

next : (unused : ℕ) (bytes : List ℕ) (i : ℕ) → get_or bytes i 0 ≡ get_or (unused ∷ bytes) (1 + i) 0
next unused bytes i = rw one-add refl

first_bytes : (bytes : List ℕ) (i : ℕ) → i < 4 → get_or (get_or bytes 0 0 ∷ get_or bytes 1 0 ∷ get_or bytes 2 0 ∷ get_or bytes 3 0 ∷ []) i 0 ≡ get_or bytes i 0
first_bytes bytes zero lt = refl
first_bytes bytes (suc zero) lt = refl
first_bytes bytes (suc (suc zero)) lt = refl
first_bytes bytes (suc (suc (suc zero))) lt = refl
first_bytes bytes (suc (suc (suc (suc i)))) lt = absurd (omega arith)

pub flags_are_bits : (content : List ℕ) (flags : ℕ) → ((k : ℕ) → get_or content k 0 < 256) → IsBits content flags → (i : ℕ) → i < 32
    → bit_at flags (31 - i) ≡ bit_at (get_or content (1 + i / 8) 0) (7 - i % 8)
flags_are_bits [] flags small h i lt = absurd (both_ways false refl h.0)
flags_are_bits (unused ∷ bytes) flags small h i lt =
    let k = 7 - i % 8 in
    let a = get_or bytes 0 0 in
    let b = get_or bytes 1 0 in
    let c = get_or bytes 2 0 in
    let d = get_or bytes 3 0 in
    ap (λ n. bit_at n (31 - i)) (h.1 ∙ first_word_is bytes) ∙ word_bit (0 + a) b c d i (small 2) (small 3) (small 4) lt
    ∙ ap (λ n. bit_at (get_or (n ∷ b ∷ c ∷ d ∷ []) (i / 8) 0) k) (zero-add a)
    ∙ ap (λ n. bit_at n k) (first_bytes bytes (i / 8) (omega arith) ∙ next unused bytes (i / 8))
