-- Principals put in the order of their names.
use Rattle.std.proofs.Common.{◌≡◌, ℕ, ◌+◌, ◌<◌, List, [], ◌∷◌, ◌++◌, map, length, get_or, zero, suc, Bool, true, false}
use Rattle.std.proofs.Common.{not, ◌&&◌, ◌||◌, if◌then◌else◌, Option, Some, None, find, refl, sym, ◌∙◌, ap, arith}
use Rattle.std.specs.Prelude.{Contains, position, slice_get}
use Rattle.std.specs.List.{AllByRecursion, list_all, list_any, IsDistinct}
use Rattle.std.specs.List.Sorted.{IsPermutation, IsSortedBy, IsStrictlySortedBy}
use Rattle.std.proofs.lemmas.List.Quantifiers.{position-Some}
use Rattle.chpw_table.proofs.NameLemmas.{is_same_name-Decides}
use Rattle.std.specs.declared.cmp.Ordering.{Ordering}
use Rattle.std.specs.declared.cmp.Ordering.TheVariants.{Less, Equal, Greater}
use Rattle.std.specs.Ordering.{is_eq, is_lt, ordering_reverse}
use Rattle.std.proofs.lemmas.List.{get_or-map, length-map}
use Rattle.std.proofs.lemmas.List.Folds.{list_any-append}
use Rattle.std.proofs.lemmas.List.Sorted.{list_any-IsPermutation, Contains-permutation, IsPermutation-sym, length_permutation}
use Rattle.std.proofs.lemmas.Map.Keys.{IsDistinct-IsPermutation, apart_from_distinct, sorted_from_all_adjacent}
use Rattle.chpw_rules.specs.declared.name.Name.{Name}
use Rattle.chpw_rules.specs.Names.{is_same_name, name_cmp}
use Rattle.chpw_rules.specs.Fitting.{none_again, are_distinct}
use Rattle.chpw_rules.specs.Limits.{is_in, principal_counts}
use Rattle.chpw_table.specs.declared.table.Principal.{Principal}
use Rattle.chpw_table.specs.Holding.{is_holder, is_same_principal, hold_keys, are_in_order, names, are_holders}
use Rattle.chpw_table.proofs.BoolLemmas.{and_left, and_right, both}
use Rattle.chpw_table.proofs.OrderLemmas.{names_total, same_name_ties, same_name_turned, sorted_order, order_sorted}
use Rattle.chpw_table.proofs.PlaceLemmas.{has_name, found_at_place}

-- ---- distinct lists, as std says it

or_first : (a b : Bool) → (a || b) ≡ false → a ≡ false
or_first false b h = refl
or_first true b h = h

or_second : (a b : Bool) → (a || b) ≡ false → b ≡ false
or_second false b h = h
or_second true b h = cc

or_false : {a b : Bool} → a ≡ false → b ≡ false → (a || (b || false)) ≡ false
or_false {a} {b} h k = rw (h, k) refl

not_true : (a : Bool) → not a ≡ true → a ≡ false
not_true false h = refl
not_true true h = cc

all_both : {A : Type 0} (P Q S : A → Type 0) → ((x : A) → P x → Q x → S x) → (xs : List A) → AllByRecursion P xs → AllByRecursion Q xs → AllByRecursion S xs
all_both P Q S f [] a b = tt
all_both P Q S f (x ∷ xs) a b = (f x a.0 b.0, all_both P Q S f xs a.1 b.1)

all_more : {A : Type 0} (P Q : A → Type 0) → ((x : A) → P x → Q x) → (xs : List A) → AllByRecursion P xs → AllByRecursion Q xs
all_more P Q f [] a = tt
all_more P Q f (x ∷ xs) a = (f x a.0, all_more P Q f xs a.1)

all_so : {A : Type 0} (P : A → Type 0) → ((x : A) → P x) → (xs : List A) → AllByRecursion P xs
all_so P f [] = tt
all_so P f (x ∷ xs) = (f x, all_so P f xs)

-- none of them is one of those before
abbrev New : List Principal → List Principal → Type 0
New before xs = AllByRecursion (λ y. list_any (is_same_principal y) before ≡ false) xs

turned : (x y : Principal) → is_same_principal x y ≡ is_same_principal y x
turned x y = same_name_turned x.name y.name

one_more : (before : List Principal) (x y : Principal) → list_any (is_same_principal y) (before ++ x ∷ [])
    ≡ (list_any (is_same_principal y) before || (is_same_principal y x || false))
one_more before x y = list_any-append (is_same_principal y) before (x ∷ [])

apart : (b : Bool) → (b || false) ≡ false → b ≡ false
apart false h = refl
apart true h = h

to_distinct : (before xs : List Principal) → none_again is_same_principal before xs ≡ true → IsDistinct is_same_principal xs × New before xs
unfolding IsDistinct
to_distinct before [] h = (tt, tt)
to_distinct before (x ∷ xs) h =
    let rest = to_distinct (before ++ x ∷ []) xs (and_right _ _ h) in (
      (
        all_more (λ y. list_any (is_same_principal y) (before ++ x ∷ []) ≡ false) (λ y. is_same_principal x y ≡ false)
            (λ y g. turned x y ∙ apart (is_same_principal y x) (or_second (list_any (is_same_principal y) before)
            (is_same_principal y x || false) (sym (one_more before x y) ∙ g))) xs rest.1,
        rest.0,
      ),
      (
        not_true (list_any (is_same_principal x) before) (and_left _ _ h),
        all_more (λ y. list_any (is_same_principal y) (before ++ x ∷ []) ≡ false) (λ y. list_any (is_same_principal y) before ≡ false)
            (λ y g. or_first (list_any (is_same_principal y) before) (is_same_principal y x || false) (sym (one_more before x y) ∙ g)) xs rest.1,
      ),
    )

from_distinct : (before xs : List Principal) → IsDistinct is_same_principal xs → New before xs → none_again is_same_principal before xs ≡ true
unfolding IsDistinct
from_distinct before [] d n = refl
from_distinct before (x ∷ xs) d n =
    both (ap not n.0)
    (from_distinct (before ++ x ∷ []) xs d.1
    (all_both (λ y. is_same_principal x y ≡ false) (λ y. list_any (is_same_principal y) before ≡ false)
    (λ y. list_any (is_same_principal y) (before ++ x ∷ []) ≡ false)
    (λ y g k. one_more before x y ∙ or_false k (turned y x ∙ g)) xs d.0 n.1))

-- ---- the same principals in another order

pub distinct_permuted : (xs ys : List Principal) → IsPermutation xs ys → are_distinct is_same_principal xs ≡ true → are_distinct is_same_principal ys ≡ true
distinct_permuted xs ys p h =
    from_distinct [] ys (IsDistinct-IsPermutation is_same_principal turned xs ys p (to_distinct [] xs h).0)
    (all_so (λ y. list_any (is_same_principal y) [] ≡ false) (λ y. refl) ys)

all_not_any : {A : Type 0} (t : A → Bool) (xs : List A) → list_all t xs ≡ not (list_any (λ x. not (t x)) xs)
all_not_any t [] = refl
all_not_any t (x ∷ xs) = at (t x) (all_not_any t xs)
  where
    at : (b : Bool) → list_all t xs ≡ not (list_any (λ x. not (t x)) xs) → (b && list_all t xs) ≡ not (not b || list_any (λ x. not (t x)) xs)
    at true h = h
    at false h = refl

all_permuted : {A : Type 0} (t : A → Bool) (xs ys : List A) → IsPermutation xs ys → list_all t xs ≡ list_all t ys
all_permuted t xs ys p = all_not_any t xs ∙ (ap not (list_any-IsPermutation (λ x. not (t x)) xs ys p) ∙ sym (all_not_any t ys))

pub hold_permuted : (xs ys : List Principal) → IsPermutation xs ys → hold_keys xs ≡ true → hold_keys ys ≡ true
hold_permuted xs ys p h = both (sym (all_permuted is_holder xs ys p) ∙ and_left _ _ h) (distinct_permuted xs ys p (and_right _ _ h))

-- ---- a name is found alike

-- what is found is one of them, and has the name
found_is : (t : Principal → Bool) (xs : List Principal) (q : Principal) → find t xs ≡ Some q → Contains xs q × (t q ≡ true)
found_is t [] q h = absurd (cc)
found_is t (x ∷ xs) q h = at (found_is t xs q) (t x) refl h
  where
    at : (find t xs ≡ Some q → Contains xs q × (t q ≡ true))
        → (b : Bool) → t x ≡ b → (if b then Some x else find t xs) ≡ Some q → Contains (x ∷ xs) q × (t q ≡ true)
    at ih true e g =
        let same : x ≡ q = cc in
        ((0, omega arith, same), ap t (sym same) ∙ e)
    at ih false e g =
        let rest = ih g in
        ((suc rest.0.0, omega (arith, rest.0.1), rest.0.2), rest.1)

-- and where one is in a list of distinct ones and has the name, it is found
is_found : (name : Name) (xs : List Principal) (q : Principal) → are_distinct is_same_principal xs ≡ true
    → Contains xs q → has_name name q ≡ true → find (has_name name) xs ≡ Some q
is_found name xs q d c h =
    found_at_place name xs c.0 q d c.1 (ap (λ (p : Principal). is_same_name p.name name) c.2 ∙ h) ∙ ap (λ (p : Principal). Some p) c.2

pub found_permuted : (name : Name) (xs ys : List Principal)
    → IsPermutation xs ys → are_distinct is_same_principal xs ≡ true → find (has_name name) ys ≡ find (has_name name) xs
found_permuted name xs ys p d = at (find (has_name name) ys) refl (find (has_name name) xs) refl
  where
    at : (a : Option Principal) → find (has_name name) ys ≡ a → (b : Option Principal) → find (has_name name) xs ≡ b → a ≡ b
    at (Some q) e b f =
        let found = found_is (has_name name) ys q e in
        sym (is_found name xs q d (Contains-permutation ys xs q (IsPermutation-sym xs ys p) found.0) found.1) ∙ f
    at None e None f = refl
    at None e (Some q) f =
        let found = found_is (has_name name) xs q f in
        sym e ∙ is_found name ys q (distinct_permuted xs ys p d) (Contains-permutation xs ys q p found.0) found.1

-- ---- the order

no : (x : Bool) → x ≡ false → x ≡ true → ⊥
no x u v = cc

rises : (a b : Name) → is_lt (name_cmp b a) ≡ false → is_same_name a b ≡ false → name_cmp a b ≡ Less
rises a b h g = at (name_cmp a b) refl
  where
    at : (c : Ordering) → name_cmp a b ≡ c → name_cmp a b ≡ Less
    at Less e = e
    at Equal e = absurd (no (is_same_name a b) g (same_name_ties a b ∙ ap is_eq e))
    at Greater e = absurd (no (is_lt (name_cmp b a)) h (ap is_lt (names_total.antisymm b a ∙ ap ordering_reverse e)))

pub in_order : (ys : List Principal) → are_distinct is_same_principal ys ≡ true
    → IsSortedBy (λ (a b : Principal). is_lt (name_cmp a.name b.name)) ys → are_in_order (names ys) ≡ true
in_order ys d s = sorted_order (names ys) (sorted_from_all_adjacent names_total (names ys) (record { parts = [] }) adjacent)
  where
    none : Principal
    none = record { name = record { parts = [] }; keys = [] }

    adjacent : (k : ℕ) → k + 1 < length (names ys) → name_cmp (get_or (names ys) k
        (record { parts = [] })) (get_or (names ys) (k + 1) (record { parts = [] })) ≡ Less
    adjacent k h =
        let within : k + 1 < length ys = rw (length-map ys (λ (p : Principal). p.name)) at h in
        let here = rises (get_or ys k none).name (get_or ys (k + 1) none).name (s k none (omega arith) within)
        (apart_from_distinct is_same_principal ys k (k + 1) none (to_distinct [] ys d).0 (omega arith) within) in
        rw (
          get_or-map (λ (p : Principal). p.name) ys k none (record { parts = [] }) (omega (arith, within)),
          get_or-map (λ (p : Principal). p.name) ys (k + 1) none (record { parts = [] }) within,
        ) here

-- principals that were sorted
pub sorted_holders : (xs ys : List Principal) → hold_keys xs ≡ true → is_in principal_counts (length xs) ≡ true → IsPermutation xs ys
    → IsSortedBy (λ (a b : Principal). is_lt (name_cmp a.name b.name)) ys → are_holders ys ≡ true
sorted_holders xs ys h f p s =
    let hold : hold_keys ys ≡ true = hold_permuted xs ys p h in
    both hold (both (in_order ys (and_right _ _ hold) s) (ap (λ n. is_in principal_counts n) (length_permutation xs ys p) ∙ f))

-- the names of a table's principals
pub holders_order : (ps : List Principal) → are_holders ps ≡ true → IsStrictlySortedBy name_cmp (map (λ (p : Principal). p.name) ps)
holders_order ps h = order_sorted (names ps) (and_left _ _ (and_right _ _ h))

none : Principal
none = record { name = record { parts = [] }; keys = [] }

name_got : (ps : List Principal) (i : ℕ) → i < length ps → slice_get (map (λ (p : Principal). p.name) ps) i ≡ Some (get_or ps i none).name
name_got [] i h = absurd (omega (arith, h))
name_got (p ∷ ps) zero h = refl
name_got (p ∷ ps) (suc i) h = name_got ps i (omega (arith, h))

-- the name at its place
pub name_at_place : (name : Name) (ps : List Principal) (i : ℕ)
    → position (has_name name) ps ≡ Some i → slice_get (map (λ (p : Principal). p.name) ps) i ≡ Some name
name_at_place name ps i h =
    let placed = position-Some (has_name name) ps i none h in
    name_got ps i placed.0 ∙ ap (λ (n : Name). Some n) ((is_same_name-Decides (get_or ps i none).name name).0 placed.1)

differs : (x : Principal) (ys : List Principal) → list_all (λ m. is_lt (name_cmp x.name m)) (names ys) ≡ true
    → AllByRecursion (λ y. is_same_principal x y ≡ false) ys
differs x [] h = tt
differs x (y ∷ ys) h = (apart_names (name_cmp x.name y.name) refl (and_left _ _ h), differs x ys (and_right _ _ h))
  where
    apart_names : (c : Ordering) → name_cmp x.name y.name ≡ c → is_lt (name_cmp x.name y.name) ≡ true → is_same_name x.name y.name ≡ false
    apart_names Less e k = same_name_ties x.name y.name ∙ ap is_eq e
    apart_names Equal e k = absurd (no (is_lt (name_cmp x.name y.name)) (ap is_lt e) k)
    apart_names Greater e k = same_name_ties x.name y.name ∙ ap is_eq e

distinct_from_order : (xs : List Principal) → are_in_order (names xs) ≡ true → IsDistinct is_same_principal xs
unfolding IsDistinct
distinct_from_order [] h = tt
distinct_from_order (x ∷ xs) h = (differs x xs (and_left _ _ h), distinct_from_order xs (and_right _ _ h))

-- principals in the order of their names are distinct
pub ordered_distinct : (xs : List Principal) → are_in_order (names xs) ≡ true → are_distinct is_same_principal xs ≡ true
ordered_distinct xs h =
    from_distinct [] xs (distinct_from_order xs h) (all_so (λ y. list_any (is_same_principal y) [] ≡ false) (λ y. refl) xs)
