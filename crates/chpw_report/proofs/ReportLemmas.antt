-- The texts of names, one after the other, and how they are written.
use Rattle.std.proofs.Common.{◌≡◌, ℕ, zero, suc, ◌+◌, ◌≤◌, List, [], ◌∷◌, ◌++◌, take, length, Option, Some, None, refl, sym, ◌∙◌, ap, append_assoc, arith}
use Rattle.std.specs.Prelude.{slice_get}
use Rattle.std.specs.List.{flat_map}
use Rattle.std.specs.Io.KnownBytes.{Appends}
use Rattle.std.proofs.lemmas.List.{append-nil}

pub appends_none : (a : Option (List ℕ)) → Appends a a []
appends_none None = tt
appends_none (Some xs) = sym (append-nil xs)

pub appends_more : (a b c : Option (List ℕ)) (xs ys : List ℕ) → Appends a b xs → Appends b c ys → Appends a c (xs ++ ys)
appends_more None b c xs ys h g = tt
appends_more (Some zs) None c xs ys h g = absurd h
appends_more (Some zs) (Some bs) None xs ys h g = absurd g
appends_more (Some zs) (Some bs) (Some cs) xs ys h g = g ∙ (ap (λ (us : List ℕ). us ++ ys) h ∙ append_assoc zs xs ys)

-- one text more
pub texts_more : {A : Type 0} (f : A → List ℕ) (xs : List A) (n : ℕ) (a : A) → slice_get xs n ≡ Some a
    → (n + 1 ≤ length xs) × (flat_map f (take (n + 1) xs) ≡ flat_map f (take n xs) ++ f a)
texts_more f [] n a h = absurd (cc)
texts_more f (b ∷ xs) zero a h =
    let same : b ≡ a = cc in
    (omega arith, append-nil (f b) ∙ ap f same)
texts_more f (b ∷ xs) (suc n) a h =
    let rest = texts_more f xs n a h in
    let few = rest.0 in
    let more : suc n + 1 ≡ suc (n + 1) = omega arith in (
      omega (arith, few),
      ap (λ (k : ℕ). flat_map f (take k (b ∷ xs))) more
          ∙ (ap (λ (ys : List ℕ). f b ++ ys) rest.1 ∙ sym (append_assoc (f b) (flat_map f (take n xs)) (f a))),
    )

-- no text more
pub texts_all : {A : Type 0} (f : A → List ℕ) (xs : List A) (n : ℕ) → slice_get xs n ≡ None
    → (length xs ≤ n) × (flat_map f (take n xs) ≡ flat_map f xs)
texts_all f [] zero h = (omega arith, refl)
texts_all f [] (suc n) h = (omega arith, refl)
texts_all f (b ∷ xs) zero h = absurd (cc)
texts_all f (b ∷ xs) (suc n) h =
    let rest = texts_all f xs n h in
    let few = rest.0 in
    (omega (arith, few), ap (λ (ys : List ℕ). f b ++ ys) rest.1)

-- what a report goes by, text by text
pub ruleset reporting = (
  texts_more,
  texts_all,
  appends_none,
  appends_more,
)
