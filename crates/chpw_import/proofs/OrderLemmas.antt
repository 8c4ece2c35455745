-- The first rows of a list are in the order of what they are made of, and each differs from the others.
use Rattle.std.proofs.Common.{◌≡◌, ◌∙◌, sym, ap, refl, subst, ℕ, zero, suc, ◌-◌, Bool, true, false}
use Rattle.std.proofs.Common.{List, [], ◌∷◌, ◌++◌, map, if◌then◌else◌, Option, Some, None, arith}
use Rattle.std.specs.Cmp.{IsTotalOrder}
use Rattle.std.specs.List.{AllByRecursion, list_all, list_any}
use Rattle.std.specs.List.Sorted.{IsStrictlySortedBy}
use Rattle.std.specs.Map.{keys_of, lookup}
use Rattle.std.specs.Ordering.{eq_by_cmp, ordering_reverse}
use Rattle.std.specs.declared.cmp.Ordering.{Ordering}
use Rattle.std.specs.declared.cmp.Ordering.TheVariants.{Less, Equal}
use Rattle.std.proofs.lemmas.Cmp.{tied_itself}
use Rattle.std.proofs.lemmas.List.Folds.{list_any-append}
use Rattle.std.proofs.lemmas.Option.{same_Some}
use Rattle.chpw_rules.specs.declared.name.Name.{Name}
use Rattle.chpw_rules.specs.declared.config.KeyBytes.{KeyBytes}
use Rattle.chpw_rules.specs.declared.config.PrincipalRow.{PrincipalRow}
use Rattle.chpw_rules.specs.Fitting.{are_distinct, none_again}
use Rattle.chpw_rules.specs.Names.{name_cmp}
use Rattle.chpw_import.specs.declared.slot.Slot.{Slot}
use Rattle.chpw_import.specs.declared.slot.Found.{Found}
use Rattle.chpw_import.specs.Rows.{keys_from, first_rows, is_service, pair_for, row_for, row_with}
use Rattle.chpw_import.proofs.RowLemmas.{no_rows, none_left, one_taken, passed}

-- ---- what holds of each element

pub of_map : {A B : Type 0} (P : B → Type 0) (f : A → B) (xs : List A) → AllByRecursion P (map f xs) → AllByRecursion (λ x. P (f x)) xs
of_map P f [] h = tt
of_map P f (x ∷ xs) h = (h.0, of_map P f xs h.1)

to_map : {A B : Type 0} (P : B → Type 0) (f : A → B) (xs : List A) → AllByRecursion (λ x. P (f x)) xs → AllByRecursion P (map f xs)
to_map P f [] h = tt
to_map P f (x ∷ xs) h = (h.0, to_map P f xs h.1)

pub both : {A : Type 0} (P Q R : A → Type 0) → ((x : A) → P x → Q x → R x) → (xs : List A) → AllByRecursion P xs → AllByRecursion Q xs → AllByRecursion R xs
both P Q R gives [] p q = tt
both P Q R gives (x ∷ xs) p q = (gives x p.0 q.0, both P Q R gives xs p.1 q.1)

pub tested : {A : Type 0} (test : A → Bool) (xs : List A) → AllByRecursion (λ x. test x ≡ true) xs → list_all test xs ≡ true
tested test [] h = refl
tested test (x ∷ xs) h = rw (h.0, tested test xs h.1)

-- ---- the first rows

module _ {A B : Type 0} (row : A → Option B) where
  -- what holds of a row holds of each of the first ones
  module _ (P : A → Type 0) (R : B → Type 0) (gives : (x : A) (y : B) → row x ≡ Some y → P x → R y) where
    first_is : (limit : ℕ) (x : A) (xs : List A) (r : Option B) → row x ≡ r → P x
        → AllByRecursion R (first_rows row (suc limit) xs) → AllByRecursion R (first_rows row (suc limit - 1) xs)
        → AllByRecursion R (first_rows row (suc limit) (x ∷ xs))
    first_is limit x xs None e here others fewer = subst (AllByRecursion R) (sym (passed row (suc limit) x xs e)) others
    first_is limit x xs (Some y) e here others fewer =
        subst (AllByRecursion R) (sym (one_taken row (suc limit) x xs y (omega arith) e)) (gives x y e here, fewer)

    pub all_rows : (limit : ℕ) (xs : List A) → AllByRecursion P xs → AllByRecursion R (first_rows row limit xs)
    all_rows limit [] h = subst (AllByRecursion R) (sym (no_rows row limit)) tt
    all_rows zero (x ∷ xs) h = subst (AllByRecursion R) (sym (none_left row zero (x ∷ xs) refl)) tt
    all_rows (suc limit) (x ∷ xs) h = first_is limit x xs (row x) refl h.0 (all_rows (suc limit) xs h.1) (all_rows (suc limit - 1) xs h.1)

  -- where each row has the key of what it is made of, they are in order
  module _ {K : Type 0} (cmp : K → K → Ordering) (from : A → K) (key : B → K) (keyed : (x : A) (y : B) → row x ≡ Some y → key y ≡ from x) where
    first_sorted : (limit : ℕ) (x : A) (xs : List A) (r : Option B) → row x ≡ r → AllByRecursion (λ z. cmp (from x) z ≡ Less) (map from xs)
        → IsStrictlySortedBy cmp (map key (first_rows row (suc limit) xs)) → IsStrictlySortedBy cmp (map key (first_rows row (suc limit - 1) xs))
        → IsStrictlySortedBy cmp (map key (first_rows row (suc limit) (x ∷ xs)))
    unfolding IsStrictlySortedBy
    first_sorted limit x xs None e above others fewer =
        subst (λ (zs : List B). IsStrictlySortedBy cmp (map key zs)) (sym (passed row (suc limit) x xs e)) others
    first_sorted limit x xs (Some y) e above others fewer =
        let P : A → Type 0 = λ (a : A). cmp (from x) (from a) ≡ Less in
        let R : B → Type 0 = λ (b : B). cmp (key y) (key b) ≡ Less in
        let gives : (a : A) (b : B) → row a ≡ Some b → P a → R b = λ (a : A) (b : B) (f : row a ≡ Some b) (h : P a). rw (keyed x y e, keyed a b f) h in
        let below : AllByRecursion R (first_rows row (suc limit - 1) xs) =
        all_rows P R gives (suc limit - 1) xs (of_map (λ z. cmp (from x) z ≡ Less) from xs above) in
        subst (λ (zs : List B). IsStrictlySortedBy cmp (map key zs))
        (sym (one_taken row (suc limit) x xs y (omega arith) e))
        (to_map (λ z. cmp (key y) z ≡ Less) key _ below, fewer)

    pub sorted_rows : (limit : ℕ) (xs : List A) → IsStrictlySortedBy cmp (map from xs) → IsStrictlySortedBy cmp (map key (first_rows row limit xs))
    unfolding IsStrictlySortedBy
    sorted_rows limit [] h = subst (λ (zs : List B). IsStrictlySortedBy cmp (map key zs)) (sym (no_rows row limit)) tt
    sorted_rows zero (x ∷ xs) h = subst (λ (zs : List B). IsStrictlySortedBy cmp (map key zs)) (sym (none_left row zero (x ∷ xs) refl)) tt
    sorted_rows (suc limit) (x ∷ xs) h = first_sorted limit x xs (row x) refl h.0 (sorted_rows (suc limit) xs h.1) (sorted_rows (suc limit - 1) xs h.1)

-- ---- the principals in the order of their names

named_as : (is : Bool) (name : Name) (keys : List KeyBytes) (y : PrincipalRow) → (if is then None else row_with name keys) ≡ Some y → y.name ≡ name
named_as true name keys y h = cc
named_as false name [] y h = cc
named_as false name (key ∷ others) y h = sym (ap (λ (r : PrincipalRow). r.name) (same_Some _ y h))

pub in_order : (keys : Slot → Option Found) (iterations : ℕ) (rows : List PrincipalRow) (xs : List (Name × ℕ))
    → rows ≡ first_rows (row_for keys iterations) 10000 xs → IsStrictlySortedBy name_cmp (keys_of xs) → IsStrictlySortedBy name_cmp (map (λ row. row.name) rows)
in_order keys iterations rows xs e h = subst (λ (zs : List PrincipalRow). IsStrictlySortedBy name_cmp (map (λ row. row.name) zs)) (sym e)
    (sorted_rows (row_for keys iterations) name_cmp (λ p. p.0) (λ row. row.name)
    (λ p y f. named_as (is_service p.0) p.0 (keys_from (pair_for keys iterations p.0) 16 p.1) y f) 10000 xs h)

-- ---- keys in a strict order

module _ {K : Type 0} (cmp : K → K → Ordering) (total : IsTotalOrder cmp) where
  -- each entry is found by its key
  pub stored : {X : Type 0} (xs : List (K × X)) → IsStrictlySortedBy cmp (keys_of xs) → AllByRecursion (λ p. lookup (eq_by_cmp cmp p.0) xs ≡ Some p.1) xs
  unfolding IsStrictlySortedBy
  stored [] s = tt
  stored {X} (x ∷ xs) s = (
    rw (tied_itself total x.0) refl,
    both (λ p. cmp x.0 p.0 ≡ Less) (λ p. lookup (eq_by_cmp cmp p.0) xs ≡ Some p.1) (λ p. lookup (eq_by_cmp cmp p.0) (x ∷ xs) ≡ Some p.1)
        behind xs (of_map (λ z. cmp x.0 z ≡ Less) (λ (p : K × X). p.0) xs s.0) (stored xs s.1),
  )
    where
      behind : (p : K × X) → cmp x.0 p.0 ≡ Less → lookup (eq_by_cmp cmp p.0) xs ≡ Some p.1 → lookup (eq_by_cmp cmp p.0) (x ∷ xs) ≡ Some p.1
      behind p less found = rw (total.antisymm p.0 x.0 ∙ ap ordering_reverse less) found

  -- by a test that tells keys apart none is the same as one before it
  module _ {B : Type 0} (key : B → K) (same : B → B → Bool) (exact : (a b : B) → same a b ≡ true → key a ≡ key b) where
    differs : (a b : B) → cmp (key a) (key b) ≡ Less → same b a ≡ false
    differs a b less = at (same b a) refl
      where
        at : (r : Bool) → same b a ≡ r → r ≡ false
        at false e = refl
        at true e = let ties : cmp (key a) (key b) ≡ Equal = ap (cmp (key a)) (exact b a e) ∙ tied_itself total (key a) in cc

    none_again_in : (before rows : List B) → AllByRecursion (λ b. list_any (same b) before ≡ false) rows
        → IsStrictlySortedBy cmp (map key rows) → none_again same before rows ≡ true
    unfolding IsStrictlySortedBy
    none_again_in before [] new s = refl
    none_again_in before (a ∷ rows) new s = rw (
      new.0,
      none_again_in (before ++ a ∷ []) rows
          (both (λ b. list_any (same b) before ≡ false) (λ b. cmp (key a) (key b) ≡ Less) (λ b. list_any (same b) (before ++ a ∷ []) ≡ false)
          more rows new.1 (of_map (λ z. cmp (key a) z ≡ Less) key rows s.0)) s.1,
    )
      where
        more : (b : B) → list_any (same b) before ≡ false → cmp (key a) (key b) ≡ Less → list_any (same b) (before ++ a ∷ []) ≡ false
        more b none less = rw (list_any-append (same b) before (a ∷ []), none, differs a b less) refl

    nothing_before : (rows : List B) → AllByRecursion (λ b. list_any (same b) [] ≡ false) rows
    nothing_before [] = tt
    nothing_before (a ∷ rows) = (refl, nothing_before rows)

    pub distinct : (rows : List B) → IsStrictlySortedBy cmp (map key rows) → are_distinct same rows ≡ true
    distinct rows s = none_again_in [] rows (nothing_before rows) s
