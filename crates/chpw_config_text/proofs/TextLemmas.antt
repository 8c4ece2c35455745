-- The texts of names and keys.
use Rattle.std.proofs.Common.{◌≡◌, ◌∙◌, ℕ, zero, suc, ◌+◌, ◌<◌, true, false, nat_lt, List, [], ◌∷◌}
use Rattle.std.proofs.Common.{◌++◌, length, get_or, take, refl, arith, append_assoc, inl, inr}
use native.Mathlib.Numerals.{unary_clauses}
use Rattle.std.specs.List.{join_with_byte}
use Rattle.std.specs.Str.{IsUtf8, is_utf8}
use Rattle.std.proofs.lemmas.Bool.{and_parts, cases_Bool, ltb-true}
use Rattle.std.proofs.lemmas.Bool.Decides.{nat_tests}
use Rattle.std.proofs.lemmas.List.{take_more}
use Rattle.std.proofs.lemmas.Str.{IsUtf8-from_is_utf8}
use Rattle.hex.specs.Hex.{IsBytes}
use Rattle.chpw_config_text.specs.Typed.{are_bytes}

-- bytes that are no text fail the test
pub utf8_refused : (bytes : List ℕ) → ¬ (IsUtf8 bytes) → is_utf8 bytes ≡ false
utf8_refused bytes other =
    elim (cases_Bool (is_utf8 bytes)) [
      | inl passed ↦ absurd (other (IsUtf8-from_is_utf8 bytes passed))
      | inr failed ↦ failed
    ]

-- one more part after others
pub join_more : (c : ℕ) (first : List ℕ) (parts : List (List ℕ)) (part : List ℕ)
    → join_with_byte c ((first ∷ parts) ++ part ∷ []) ≡ join_with_byte c (first ∷ parts) ++ (c ∷ part)
join_more c first [] part = refl
join_more c first (next ∷ parts) part = rw (join_more c next parts part) (simp append_assoc)

lt_test : (byte : ℕ) → byte < 256 → nat_lt byte 256 ≡ true
lt_test byte below = grind (arith, nat_tests)

-- bytes by their places, and by a test
pub bytes_tested : (key : List ℕ) → IsBytes key → are_bytes key ≡ true
bytes_tested [] all = refl
bytes_tested (byte ∷ key) all = rw (lt_test byte (all 0), bytes_tested key (λ i. all (suc i)))

pub bytes_untested : (key : List ℕ) → are_bytes key ≡ true → IsBytes key
bytes_untested [] tested i = omega arith
bytes_untested (byte ∷ key) tested zero = ltb-true byte 256 (and_parts (nat_lt byte 256) (are_bytes key) tested).0
bytes_untested (byte ∷ key) tested (suc i) = bytes_untested key (and_parts (nat_lt byte 256) (are_bytes key) tested).1 i

-- the parts up to a place, joined
pub join_first : (parts : List (List ℕ)) (i : ℕ) (d : List ℕ) → i ≡ 0 → i < length parts
    → join_with_byte 47 (take (i + 1) parts) ≡ get_or parts i d
join_first [] i d none within = absurd (omega arith)
join_first (first ∷ parts) i d none within = rw none

join_after : (first : List ℕ) (parts : List (List ℕ)) (i : ℕ) (d : List ℕ) → i < length parts
    → join_with_byte 47 (first ∷ take (i + 1) parts) ≡ (join_with_byte 47 (first ∷ take i parts) ++ 47 ∷ []) ++ get_or parts i d
join_after first parts i d within = rw (take_more parts i d within) (join_more 47 first (take i parts) (get_or parts i d) ∙ simp append_assoc)

pub join_next : (parts : List (List ℕ)) (i : ℕ) (d : List ℕ) → 0 < i → i < length parts
    → join_with_byte 47 (take (i + 1) parts) ≡ (join_with_byte 47 (take i parts) ++ 47 ∷ []) ++ get_or parts i d
join_next [] i d some within = absurd (omega arith)
join_next (first ∷ parts) zero d some within = absurd (omega arith)
join_next (first ∷ parts) (suc i) d some within = simp unary_clauses (simp unary_clauses at (join_after first parts i d (omega arith)))
