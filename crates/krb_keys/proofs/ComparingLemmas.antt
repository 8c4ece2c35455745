-- Texts that are compared by the bits in which their bytes differ.
use Rattle.std.proofs.Common.{◌≡◌, ℕ, ◌-◌, ◌<◌, List, [], ◌∷◌, length, take, drop, slice_index_or, ap, ◌∙◌, arith}
use Rattle.std.proofs.lemmas.List.{take_rest}
use Rattle.std.proofs.lemmas.Nat.{and_le_l, and_le_r, le_or_l, le_or_r}
use Rattle.std.specs.Int.Bits.{bit_or, bit_xor, xor_add_and, xor_self}

-- bytes that differ in no bit are the same
same_byte : (x y : ℕ) → bit_xor x y ≡ 0 → x ≡ y
same_byte x y none = omega (arith, none, xor_add_and x y, and_le_l x y, and_le_r x y)

none_before : (seen x y : ℕ) → bit_or seen (bit_xor x y) ≡ 0 → seen ≡ 0
none_before seen x y none = omega (arith, none, le_or_l seen (bit_xor x y))

none_here : (seen x y : ℕ) → bit_or seen (bit_xor x y) ≡ 0 → x ≡ y
none_here seen x y none = same_byte x y (omega (arith, none, le_or_r seen (bit_xor x y)))

none_further : (seen x y : ℕ) → seen ≡ 0 → x ≡ y → bit_or seen (bit_xor x y) ≡ 0
none_further seen x y none same =
    ap (λ s. bit_or s (bit_xor x y)) none ∙ ap (λ z. bit_xor z y) same ∙ xor_self y

-- the texts are the same if no bit differs so far and the rest is the same
abbrev pub IsSoFar : List ℕ → List ℕ → List ℕ → List ℕ → ℕ → Type 0
IsSoFar one other rest others seen =
    (length rest ≡ length others)
    × (seen ≡ 0 → rest ≡ others → one ≡ other)
    × (one ≡ other → seen ≡ 0)
    × (one ≡ other → rest ≡ others)

cons_same : (x y : ℕ) (xs ys : List ℕ) → x ≡ y → xs ≡ ys → x ∷ xs ≡ y ∷ ys
cons_same x y xs ys e h = ap (λ z. z ∷ xs) e ∙ ap (λ zs. y ∷ zs) h

further : (one other : List ℕ) (x y : ℕ) (xs ys : List ℕ) (seen : ℕ) → IsSoFar one other (x ∷ xs) (y ∷ ys) seen
    → IsSoFar one other xs ys (bit_or seen (bit_xor x y))
further one other x y xs ys seen (len, same, none, rest) = (
  omega (arith, len),
  λ here back. same (none_before seen x y here) (cons_same x y xs ys (none_here seen x y here) back),
  λ is. none_further seen x y (none is) (ap (λ (zs : List ℕ). slice_index_or zs 0 0) (rest is)),
  λ is. ap (λ (zs : List ℕ). drop 1 zs) (rest is),
)

pub one_further : (one other rest others : List ℕ) (seen : ℕ) → 0 < length rest → IsSoFar one other rest others seen
    → IsSoFar one other (take (length rest - 1) (drop 1 rest)) (take (length others - 1) (drop 1 others))
    (bit_or seen (bit_xor (slice_index_or rest 0 0) (slice_index_or others 0 0)))
one_further one other [] others seen some so = absurd (omega (arith, some))
one_further one other (x ∷ xs) [] seen some so = absurd (omega (arith, so.0))
one_further one other (x ∷ xs) (y ∷ ys) seen some so =
    let whole : take (length (x ∷ xs) - 1) (drop 1 (x ∷ xs)) ≡ xs = take_rest (x ∷ xs) 1 in
    let back : take (length (y ∷ ys) - 1) (drop 1 (y ∷ ys)) ≡ ys = take_rest (y ∷ ys) 1 in
    rw (whole, back) (further one other x y xs ys seen so)
