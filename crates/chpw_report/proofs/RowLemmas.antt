-- Rows that are made one after the other.
use Rattle.std.proofs.Common.{◌≡◌, ℕ, zero, suc, ◌+◌, ◌≤◌, List, [], ◌∷◌, ◌++◌, map, take, length, Some, None, refl, ◌∙◌, ap, arith}
use Rattle.std.specs.Prelude.{slice_get}

-- one row more
pub rows_more : {A B : Type 0} (f : A → B) (xs : List A) (n : ℕ) (a : A) → slice_get xs n ≡ Some a
    → (n + 1 ≤ length xs) × (map f (take (n + 1) xs) ≡ map f (take n xs) ++ f a ∷ [])
rows_more f [] n a h = absurd (cc)
rows_more f (b ∷ xs) zero a h =
    let same : b ≡ a = cc in
    (omega arith, ap (λ x. f x ∷ []) same)
rows_more f (b ∷ xs) (suc n) a h =
    let rest = rows_more f xs n a h in
    let few = rest.0 in
    let more : suc n + 1 ≡ suc (n + 1) = omega arith in
    (omega (arith, few), ap (λ (k : ℕ). map f (take k (b ∷ xs))) more ∙ ap (λ ys. f b ∷ ys) rest.1)

-- no row more
pub rows_all : {A B : Type 0} (f : A → B) (xs : List A) (n : ℕ) → slice_get xs n ≡ None
    → (length xs ≤ n) × (map f (take n xs) ≡ map f xs)
rows_all f [] zero h = (omega arith, refl)
rows_all f [] (suc n) h = (omega arith, refl)
rows_all f (b ∷ xs) zero h = absurd (cc)
rows_all f (b ∷ xs) (suc n) h =
    let rest = rows_all f xs n h in
    let few = rest.0 in
    (omega (arith, few), ap (λ ys. f b ∷ ys) rest.1)
