-- A tree's keys after a key was put into one of its sides.
use Rattle.std.proofs.Common.{◌≡◌, ◌≤◌, ℕ, List, [], ◌∷◌, ◌++◌, length, sym, ◌∙◌, ap, subst, arith}
use Rattle.std.specs.declared.cmp.Ordering.{Ordering}
use Rattle.std.specs.declared.cmp.Ordering.TheVariants.{Less, Equal, Greater}
use Rattle.std.specs.List.Sorted.{IsStrictlySortedBy}
use Rattle.std.specs.Cmp.{IsTotalOrder}
use Rattle.std.specs.BTreeSet.{insert_key}
use Rattle.std.proofs.lemmas.List.{length-append}
use Rattle.chpw_ordered_keys.specs.Trees.{AreEven, WereEven, with_first}
use Rattle.chpw_ordered_keys.proofs.OrderLemmas.{first_length, first_keeps, sorted_front, sorted_back, insert_left, insert_right, insert_here}

-- ---- how even the sides are

pub were_even : (l r : ℕ) → AreEven l r → WereEven l r
were_even l r e = (omega (arith, e.0), omega (arith, e.1))

module _ {K : Type 0} (R : K → K → Ordering) (o : IsTotalOrder R) where
  pub one_on_left : (l other r : List K) → AreEven (length l) (length r) → (more : List K) → more ≡ with_first R l other → WereEven (length more) (length r)
  one_on_left l other r e more is =
      let size = ap length is in
      (omega (arith, e.0, size, first_length R o l other), omega (arith, e.1, size, first_keeps R o l other))

  pub one_on_right : (l r other : List K) → AreEven (length l) (length r) → (more : List K) → more ≡ with_first R r other → WereEven (length l) (length more)
  one_on_right l r other e more is =
      let size = ap length is in
      (omega (arith, e.0, size, first_keeps R o r other), omega (arith, e.1, size, first_length R o r other))

-- ---- the keys

-- a node whose key is the only one
pub alone : {K : Type 0} (ks l r : List K) (k : K) → ks ≡ l ++ k ∷ r → length ks ≤ 1 → ks ≡ k ∷ []
alone ks [] [] k e h = e
alone ks [] (x ∷ r) k e h = let n : length ks ≡ length (k ∷ x ∷ r) = ap length e in absurd (omega (arith, n, h))
alone ks (x ∷ l) r k e h = let n : length ks ≡ length ((x ∷ l) ++ k ∷ r) = ap length e in absurd (omega (arith, n, h, length-append l (k ∷ r)))

module _ {K : Type 0} (R : K → K → Ordering) (o : IsTotalOrder R) (all l r other : List K)
    (at k : K) (is : all ≡ l ++ at ∷ r) (sorted : IsStrictlySortedBy R all) (one : other ≡ k ∷ []) where
  within : IsStrictlySortedBy R (l ++ at ∷ r)
  within = subst (IsStrictlySortedBy R) is sorted

  pub sorted_left : IsStrictlySortedBy R l
  sorted_left = sorted_front R l (at ∷ r) within

  pub sorted_right : IsStrictlySortedBy R r
  sorted_right = sorted_back R l at r within

  whole : with_first R all other ≡ insert_key R (l ++ at ∷ r) k
  whole = ap (λ ks. with_first R all ks) one ∙ ap (λ ks. insert_key R ks k) is

  pub after_left : (more : List K) → R k at ≡ Less → more ≡ with_first R l other → more ++ at ∷ r ≡ with_first R all other
  after_left more h e =
      ap (λ ks. ks ++ at ∷ r) (e ∙ ap (with_first R l) one)
      ∙ (sym (insert_left R k l at r h) ∙ sym whole)

  pub after_right : (more : List K) → R k at ≡ Greater → more ≡ with_first R r other → l ++ at ∷ more ≡ with_first R all other
  after_right more h e =
      ap (λ ks. l ++ at ∷ ks) (e ∙ ap (with_first R r) one)
      ∙ (sym (insert_right R o k l at r within h) ∙ sym whole)

  pub after_here : R k at ≡ Equal → l ++ at ∷ r ≡ with_first R all other
  after_here h = sym (insert_here R o k l at r within h) ∙ sym whole
