-- Keys in order, on both sides of one of them.
use Rattle.std.proofs.Common.{◌≡◌, ◌+◌, ◌≤◌, List, [], ◌∷◌, ◌++◌, length, Bool, true, false, ◌||◌, refl, sym, ◌∙◌, ap, arith}
use Rattle.std.specs.List.{AllByRecursion, list_any}
use Rattle.std.specs.List.Sorted.{IsStrictlySortedBy}
use Rattle.std.specs.Cmp.{IsTotalOrder}
use Rattle.std.specs.declared.cmp.Ordering.{Ordering}
use Rattle.std.specs.declared.cmp.Ordering.TheVariants.{Less, Equal, Greater}
use Rattle.std.specs.Ordering.{eq_by_cmp, is_eq, match_ordering, ordering_reverse}
use Rattle.std.specs.BTreeSet.{insert_key}
use Rattle.std.proofs.lemmas.List.Folds.{list_any-append}
use Rattle.chpw_ordered_keys.specs.Trees.{with_first}

-- ---- what holds of all

pub all_front : {K : Type 0} (P : K → Type 0) (xs ys : List K) → AllByRecursion P (xs ++ ys) → AllByRecursion P xs
all_front P [] ys a = tt
all_front P (x ∷ xs) ys a = (a.0, all_front P xs ys a.1)

all_middle : {K : Type 0} (P : K → Type 0) (xs : List K) (k : K) (ys : List K) → AllByRecursion P (xs ++ k ∷ ys) → P k
all_middle P [] k ys a = a.0
all_middle P (x ∷ xs) k ys a = all_middle P xs k ys a.1

all_map : {K : Type 0} (P Q : K → Type 0) → ((x : K) → P x → Q x) → (xs : List K) → AllByRecursion P xs → AllByRecursion Q xs
all_map P Q f [] a = tt
all_map P Q f (x ∷ xs) a = (f x a.0, all_map P Q f xs a.1)

-- ---- parts of a list in order

pub sorted_front : {K : Type 0} (R : K → K → Ordering) (xs ys : List K) → IsStrictlySortedBy R (xs ++ ys) → IsStrictlySortedBy R xs
unfolding IsStrictlySortedBy
sorted_front R [] ys s = tt
sorted_front R (x ∷ xs) ys s = (all_front (λ y. R x y ≡ Less) xs ys s.0, sorted_front R xs ys s.1)

pub sorted_back : {K : Type 0} (R : K → K → Ordering) (xs : List K) (k : K) (ys : List K) → IsStrictlySortedBy R (xs ++ k ∷ ys) → IsStrictlySortedBy R ys
unfolding IsStrictlySortedBy
sorted_back R [] k ys s = s.1
sorted_back R (x ∷ xs) k ys s = sorted_back R xs k ys s.1

above : {K : Type 0} (R : K → K → Ordering) (xs : List K) (k : K) (ys : List K) → IsStrictlySortedBy R (xs ++ k ∷ ys) → AllByRecursion (λ y. R k y ≡ Less) ys
unfolding IsStrictlySortedBy
above R [] k ys s = s.0
above R (x ∷ xs) k ys s = above R xs k ys s.1

below : {K : Type 0} (R : K → K → Ordering) (xs : List K) (k : K) (ys : List K) → IsStrictlySortedBy R (xs ++ k ∷ ys) → AllByRecursion (λ x. R x k ≡ Less) xs
unfolding IsStrictlySortedBy
below R [] k ys s = tt
below R (x ∷ xs) k ys s = (all_middle (λ y. R x y ≡ Less) xs k ys s.0, below R xs k ys s.1)

-- ---- a key put in its place

insert_front : {K : Type 0} (c : Ordering) (q x k : K) (xs ys us vs : List K) → us ≡ vs ++ k ∷ ys
    → match_ordering c (q ∷ x ∷ (xs ++ k ∷ ys)) (x ∷ (xs ++ k ∷ ys)) (x ∷ us) ≡ match_ordering c (q ∷ x ∷ xs) (x ∷ xs) (x ∷ vs) ++ k ∷ ys
insert_front Less q x k xs ys us vs e = refl
insert_front Equal q x k xs ys us vs e = refl
insert_front Greater q x k xs ys us vs e = ap (λ ws. x ∷ ws) e

-- to the left of a greater one
pub insert_left : {K : Type 0} (R : K → K → Ordering) (q : K) (xs : List K) (k : K) (ys : List K)
    → R q k ≡ Less → insert_key R (xs ++ k ∷ ys) q ≡ insert_key R xs q ++ k ∷ ys
insert_left R q [] k ys h = ap (λ c. match_ordering c (q ∷ k ∷ ys) (k ∷ ys) (k ∷ insert_key R ys q)) h
insert_left R q (x ∷ xs) k ys h = insert_front (R q x) q x k xs ys (insert_key R (xs ++ k ∷ ys) q) (insert_key R xs q) (insert_left R q xs k ys h)

insert_later : {K : Type 0} (R : K → K → Ordering) (q x : K) (xs : List K) → R q x ≡ Greater → insert_key R (x ∷ xs) q ≡ x ∷ insert_key R xs q
insert_later R q x xs h = ap (λ c. match_ordering c (q ∷ x ∷ xs) (x ∷ xs) (x ∷ insert_key R xs q)) h

module _ {K : Type 0} (R : K → K → Ordering) (o : IsTotalOrder R) where
  turned : (x y : K) → R x y ≡ Less → R y x ≡ Greater
  turned x y h = o.antisymm y x ∙ ap ordering_reverse h

  turned_back : (x y : K) → R x y ≡ Greater → R y x ≡ Less
  turned_back x y h = o.antisymm y x ∙ ap ordering_reverse h

  -- a key is after what is before one that isn't after it
  after_front : (q x k : K) → R x k ≡ Less → R q k ≡ Greater → R q x ≡ Greater
  after_front q x k h g = turned x q (o.trans x k q h (turned_back q k g))

  same_front : (q x k : K) → R x k ≡ Less → R q k ≡ Equal → R q x ≡ Greater
  same_front q x k h g = o.congr q k x g ∙ turned x k h

  -- to the right of a smaller one
  right_from : (q : K) (xs : List K) (k : K) (ys : List K) → AllByRecursion (λ x. R x k ≡ Less) xs
      → R q k ≡ Greater → insert_key R (xs ++ k ∷ ys) q ≡ xs ++ k ∷ insert_key R ys q
  right_from q [] k ys a h = insert_later R q k ys h
  right_from q (x ∷ xs) k ys a h = insert_later R q x (xs ++ k ∷ ys) (after_front q x k a.0 h) ∙ ap (λ zs. x ∷ zs) (right_from q xs k ys a.1 h)

  pub insert_right : (q : K) (xs : List K) (k : K) (ys : List K) → IsStrictlySortedBy R (xs ++ k ∷ ys)
      → R q k ≡ Greater → insert_key R (xs ++ k ∷ ys) q ≡ xs ++ k ∷ insert_key R ys q
  insert_right q xs k ys s h = right_from q xs k ys (below R xs k ys s) h

  here_from : (q : K) (xs : List K) (k : K) (ys : List K) → AllByRecursion (λ x. R x k ≡ Less) xs → R q k ≡ Equal → insert_key R (xs ++ k ∷ ys) q ≡ xs ++ k ∷ ys
  here_from q [] k ys a h = ap (λ c. match_ordering c (q ∷ k ∷ ys) (k ∷ ys) (k ∷ insert_key R ys q)) h
  here_from q (x ∷ xs) k ys a h = insert_later R q x (xs ++ k ∷ ys) (same_front q x k a.0 h) ∙ ap (λ zs. x ∷ zs) (here_from q xs k ys a.1 h)

  -- where it stands already
  pub insert_here : (q : K) (xs : List K) (k : K) (ys : List K)
      → IsStrictlySortedBy R (xs ++ k ∷ ys) → R q k ≡ Equal → insert_key R (xs ++ k ∷ ys) q ≡ xs ++ k ∷ ys
  insert_here q xs k ys s h = here_from q xs k ys (below R xs k ys s) h

  all_insert : (P : K → Type 0) (q : K) (xs : List K) → P q → AllByRecursion P xs → AllByRecursion P (insert_key R xs q)
  all_insert P q [] p a = (p, tt)
  all_insert P q (x ∷ xs) p a = at (all_insert P q xs p a.1) (R q x)
    where
      at : AllByRecursion P (insert_key R xs q) → (c : Ordering) → AllByRecursion P (match_ordering c (q ∷ x ∷ xs) (x ∷ xs) (x ∷ insert_key R xs q))
      at ih Less = (p, a)
      at ih Equal = a
      at ih Greater = (a.0, ih)

  -- the keys stay in order
  pub sorted_insert : (q : K) (xs : List K) → IsStrictlySortedBy R xs → IsStrictlySortedBy R (insert_key R xs q)
  unfolding IsStrictlySortedBy
  sorted_insert q [] s = (tt, tt)
  sorted_insert q (x ∷ xs) s = at (sorted_insert q xs s.1) (R q x) refl
    where
      at : IsStrictlySortedBy R (insert_key R xs q) → (c : Ordering)
          → R q x ≡ c → IsStrictlySortedBy R (match_ordering c (q ∷ x ∷ xs) (x ∷ xs) (x ∷ insert_key R xs q))
      at ih Less e = ((e, all_map (λ y. R x y ≡ Less) (λ y. R q y ≡ Less) (λ y h. o.trans q x y e h) xs s.0), s)
      at ih Equal e = s
      at ih Greater e = (all_insert (λ y. R x y ≡ Less) q xs (turned_back q x e) s.0, ih)

  pub sorted_first : (ks qs : List K) → IsStrictlySortedBy R ks → IsStrictlySortedBy R (with_first R ks qs)
  sorted_first ks [] s = s
  sorted_first ks (q ∷ qs) s = sorted_insert q ks s

  insert_length : (q : K) (xs : List K) → length (insert_key R xs q) ≤ length xs + 1
  insert_length q [] = omega arith
  insert_length q (x ∷ xs) = at (insert_length q xs) (R q x)
    where
      at : length (insert_key R xs q) ≤ length xs + 1 → (c : Ordering)
          → length (match_ordering c (q ∷ x ∷ xs) (x ∷ xs) (x ∷ insert_key R xs q)) ≤ length (x ∷ xs) + 1
      at ih Less = omega arith
      at ih Equal = omega arith
      at ih Greater = omega (arith, ih)

  insert_keeps : (q : K) (xs : List K) → length xs ≤ length (insert_key R xs q)
  insert_keeps q [] = omega arith
  insert_keeps q (x ∷ xs) = at (insert_keeps q xs) (R q x)
    where
      at : length xs ≤ length (insert_key R xs q) → (c : Ordering) → length (x ∷ xs) ≤ length (match_ordering c (q ∷ x ∷ xs) (x ∷ xs) (x ∷ insert_key R xs q))
      at ih Less = omega arith
      at ih Equal = omega arith
      at ih Greater = omega (arith, ih)

  -- none is lost
  pub first_keeps : (ks qs : List K) → length ks ≤ length (with_first R ks qs)
  first_keeps ks [] = omega arith
  first_keeps ks (q ∷ qs) = insert_keeps q ks

  -- and there is one more at the most
  pub first_length : (ks qs : List K) → length (with_first R ks qs) ≤ length ks + 1
  first_length ks [] = omega arith
  first_length ks (q ∷ qs) = insert_length q ks

  -- ---- which keys are there

  none_above : (q : K) (xs : List K) → AllByRecursion (λ x. R q x ≡ Less) xs → list_any (eq_by_cmp R q) xs ≡ false
  none_above q [] a = refl
  none_above q (x ∷ xs) a = ap (λ c. is_eq c || list_any (eq_by_cmp R q) xs) a.0 ∙ none_above q xs a.1

  none_below : (q : K) (xs : List K) → AllByRecursion (λ x. R q x ≡ Greater) xs → list_any (eq_by_cmp R q) xs ≡ false
  none_below q [] a = refl
  none_below q (x ∷ xs) a = ap (λ c. is_eq c || list_any (eq_by_cmp R q) xs) a.0 ∙ none_below q xs a.1

  or_none : (b : Bool) → (b || false) ≡ b
  or_none true = refl
  or_none false = refl

  or_some : (b : Bool) → (b || true) ≡ true
  or_some true = refl
  or_some false = refl

  any_at : (q : K) (xs : List K) (k : K) (ys : List K) (c : Ordering)
      → R q k ≡ c → list_any (eq_by_cmp R q) (xs ++ k ∷ ys)
      ≡ (list_any (eq_by_cmp R q) xs || (is_eq c || list_any (eq_by_cmp R q) ys))
  any_at q xs k ys c h = list_any-append (eq_by_cmp R q) xs (k ∷ ys) ∙ ap (λ d. list_any (eq_by_cmp R q) xs || (is_eq d || list_any (eq_by_cmp R q) ys)) h

  pub any_left : (q : K) (xs : List K) (k : K) (ys : List K) → IsStrictlySortedBy R (xs ++ k ∷ ys)
      → R q k ≡ Less → list_any (eq_by_cmp R q) (xs ++ k ∷ ys) ≡ list_any (eq_by_cmp R q) xs
  any_left q xs k ys s h =
      any_at q xs k ys Less h
      ∙ (ap (λ b. list_any (eq_by_cmp R q) xs || b) (none_above q ys
      (all_map (λ y. R k y ≡ Less) (λ y. R q y ≡ Less) (λ y g. o.trans q k y h g) ys (above R xs k ys s)))
      ∙ or_none (list_any (eq_by_cmp R q) xs))

  pub any_right : (q : K) (xs : List K) (k : K) (ys : List K) → IsStrictlySortedBy R (xs ++ k ∷ ys)
      → R q k ≡ Greater → list_any (eq_by_cmp R q) (xs ++ k ∷ ys) ≡ list_any (eq_by_cmp R q) ys
  any_right q xs k ys s h =
      any_at q xs k ys Greater h
      ∙ ap (λ b. b || list_any (eq_by_cmp R q) ys) (none_below q xs
      (all_map (λ x. R x k ≡ Less) (λ x. R q x ≡ Greater) (λ x g. after_front q x k g h) xs (below R xs k ys s)))

  pub any_here : (q : K) (xs : List K) (k : K) (ys : List K) → R q k ≡ Equal → list_any (eq_by_cmp R q) (xs ++ k ∷ ys) ≡ true
  any_here q xs k ys h = any_at q xs k ys Equal h ∙ or_some (list_any (eq_by_cmp R q) xs)

  -- what a test finds after a key was put in, where it can't tell keys apart that compare alike
  pub any_insert : (t : K → Bool) (q : K) → ((x : K) → R q x ≡ Equal → t q ≡ t x) → (xs : List K) → list_any t (insert_key R xs q) ≡ (t q || list_any t xs)
  any_insert t q alike [] = refl
  any_insert t q alike (x ∷ xs) = at (any_insert t q alike xs) (R q x) refl
    where
      absorbed : (a b : Bool) → (a || b) ≡ (a || (a || b))
      absorbed true b = refl
      absorbed false b = refl

      swapped : (a b c : Bool) → (b || (a || c)) ≡ (a || (b || c))
      swapped true true c = refl
      swapped true false c = refl
      swapped false b c = refl

      at : list_any t (insert_key R xs q) ≡ (t q || list_any t xs)
          → (c : Ordering) → R q x ≡ c → list_any t (match_ordering c (q ∷ x ∷ xs) (x ∷ xs) (x ∷ insert_key R xs q))
          ≡ (t q || (t x || list_any t xs))
      at ih Less e = refl
      at ih Equal e = ap (λ a. a || list_any t xs) (sym (alike x e)) ∙ (absorbed (t q) (list_any t xs) ∙ ap (λ a. t q || (a || list_any t xs)) (alike x e))
      at ih Greater e = ap (λ b. t x || b) ih ∙ swapped (t q) (t x) (list_any t xs)
