-- A list is that of its elements.
use Rattle.std.proofs.Common.{◌≡◌, ◌∙◌, zero, suc, ℕ, ◌+◌, ◌*◌, List, [], ◌∷◌, length, get_or, drop, ap, refl, arith}
use Rattle.std.proofs.Math.Seq.{drop-cons, drop-length}
use Rattle.krb_msgs.specs.Making.{word_bytes}

-- so many elements from a place on
abbrev pub cells : ℕ → ℕ → List ℕ → List ℕ
cells i zero words = []
cells i (suc n) words = get_or words i 0 ∷ cells (suc i) n words

pub after_place : (words : List ℕ) (i n : ℕ) → length words ≡ i + n → drop i words ≡ cells i n words
after_place words i zero is =
    ap (λ (m : ℕ). drop m words) (let e : i ≡ length words = omega (arith, is) in e) ∙ drop-length words
after_place words i (suc n) is =
    drop-cons words i 0 (omega (arith, is))
    ∙ ap (λ (xs : List ℕ). get_or words i 0 ∷ xs) (after_place words (suc i) n (omega (arith, is)))

-- a word has four bytes
pub length-word_bytes : (words : List ℕ) → length (word_bytes words) ≡ 4 * length words
length-word_bytes [] = refl
length-word_bytes (w ∷ words) = omega (arith, length-word_bytes words)
