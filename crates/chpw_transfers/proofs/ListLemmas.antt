-- What stands at the places of a list behind a write at one of them.
use Rattle.std.proofs.Common.{◌≡◌, ℕ, zero, suc, ◌<◌, List, [], ◌∷◌, length, set, slice_get, refl, ap, arith, Some}

pub written : {X : Type 0} → (xs : List X) (i : ℕ) (y : X) → i < length xs → slice_get (set xs i y) i ≡ Some y
written [] i y within = absurd (omega (arith, within))
written (x ∷ xs) zero y within = refl
written (x ∷ xs) (suc i) y within = written xs i y (omega (arith, within))

pub elsewhere : {X : Type 0} → (xs : List X) (i j : ℕ) (y : X) → (j ≡ i → ⊥) → slice_get (set xs i y) j ≡ slice_get xs j
elsewhere [] i j y differs = refl
elsewhere (x ∷ xs) zero zero y differs = absurd (differs refl)
elsewhere (x ∷ xs) zero (suc j) y differs = refl
elsewhere (x ∷ xs) (suc i) zero y differs = refl
elsewhere (x ∷ xs) (suc i) (suc j) y differs = elsewhere xs i j y (λ same. differs (ap suc same))
