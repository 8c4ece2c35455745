-- What a write at one place of a list does to a sum over it.
use Rattle.std.proofs.Common.{◌≡◌, ◌≤◌, ◌+◌, ℕ, zero, suc, List, [], ◌∷◌, set, slice_get, Some, refl, ap, arith}
use Rattle.std.specs.List.{sum_by}
use Rattle.std.proofs.lemmas.List.Sums.{sum_by-cons}

-- no more comes than what is written
pub sum_set : {X : Type 0} → (f : X → ℕ) (xs : List X) (i : ℕ) (y : X) → sum_by f (set xs i y) ≤ sum_by f xs + f y
sum_set f [] i y = omega (arith)
sum_set f (x ∷ xs) zero y = omega (arith, sum_by-cons f x xs, sum_by-cons f y xs)
sum_set f (x ∷ xs) (suc i) y = omega (arith, sum_by-cons f x xs, sum_by-cons f x (set xs i y), sum_set f xs i y)

-- what counts as much as what it replaces
pub sum_kept : {X : Type 0} → (f : X → ℕ) (xs : List X) (i : ℕ) (x y : X) → slice_get xs i ≡ Some x → f y ≡ f x
    → sum_by f (set xs i y) ≡ sum_by f xs
sum_kept f [] i x y is same = refl
sum_kept f (z ∷ xs) zero x y is same =
    let here : z ≡ x = cc in
    omega (arith, same, ap f here, sum_by-cons f z xs, sum_by-cons f y xs)
sum_kept f (z ∷ xs) (suc i) x y is same =
    omega (arith, sum_by-cons f z xs, sum_by-cons f z (set xs i y), sum_kept f xs i x y is same)
