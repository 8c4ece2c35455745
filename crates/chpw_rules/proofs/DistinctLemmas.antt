-- Lists in which no element is the same as one before it.
use Rattle.std.proofs.Common.{true, false, ◌≡◌, ℕ, ◌+◌, ◌<◌, Bool, not, ◌&&◌, List, [], ◌∷◌, ◌++◌, append_assoc, length, take, drop, get_or}
use Rattle.std.specs.List.{list_any}
use Rattle.std.proofs.lemmas.Bool.{and_parts}
use Rattle.std.proofs.lemmas.List.{append-nil, drop_more, take_more}
use Rattle.chpw_rules.specs.Fitting.{none_again}

-- the first of the elements to come joins those before
pub none_again_more : {A : Type 0} (same : A → A → Bool) (xs : List A) (i : ℕ) (d : A) → i < length xs
    → none_again same (take i xs) (drop i xs)
    ≡ (not (list_any (same (get_or xs i d)) (take i xs)) && none_again same (take (i + 1) xs) (drop (i + 1) xs))
none_again_more same xs i d h = rw (drop_more xs i d h, take_more xs i d h)

-- one more element, the same as none before it
pub none_again_last : {A : Type 0} (same : A → A → Bool) (before xs : List A) (a : A) → none_again same before xs ≡ true
    → list_any (same a) (before ++ xs) ≡ false → none_again same before (xs ++ a ∷ []) ≡ true
none_again_last same before [] a none new = rw (rw append-nil at new)
none_again_last same before (x ∷ xs) a none new =
    let (here, rest) = and_parts (not (list_any (same x) before)) (none_again same (before ++ x ∷ []) xs) none in
    rw (here, none_again_last same (before ++ x ∷ []) xs a rest (rw append_assoc new))
