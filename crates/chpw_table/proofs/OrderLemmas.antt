-- The orders of names and of ids, and what they say of sameness.
use Rattle.std.proofs.Common.{◌≡◌, ℕ, List, [], ◌∷◌, ◌+◌, ◌==◌, Bool, true, false, ◌&&◌, ◌||◌, cond, not, Some, None, length, refl, sym, ◌∙◌, ap}
use Rattle.std.specs.Prelude.{bytes_eq, nat_lt, position}
use Rattle.std.specs.List.{AllByRecursion, list_all, list_any, prefix_len}
use Rattle.std.specs.List.Sorted.{IsStrictlySortedBy}
use Rattle.std.specs.Cmp.{IsTotalOrder, unsigned_tied}
use Rattle.std.specs.Cmp.Lexicographic.{slice_cmp, lists_total, lists_ties, nat_list_cmp_total, texts_ties}
use Rattle.std.specs.declared.cmp.Ordering.{Ordering}
use Rattle.std.specs.declared.cmp.Ordering.TheVariants.{Less, Equal, Greater}
use Rattle.std.specs.Ordering.{eq_by_cmp, is_eq, is_lt, nat_cmp, int_cmp, ordering_then}
use Rattle.std.proofs.lemmas.Cmp.{then_total, on_total, nat_cmp_total, int_cmp_total, eq_by_cmp_equiv}
use Rattle.chpw_rules.specs.declared.name.Name.{Name}
use Rattle.chpw_rules.specs.Names.{is_same_name, name_cmp}
pub use Rattle.chpw_rules.proofs.NameOrderLemmas.{names_total, same_name_ties, same_name_turned}
use Rattle.chpw_table.specs.declared.request.RequestId.{RequestId}
use Rattle.chpw_table.specs.Requests.{is_same_id}
use Rattle.chpw_table.specs.Holding.{are_in_order, id_cmp}
use Rattle.chpw_table.proofs.BoolLemmas.{and_left, and_right, both}

-- ---- names

is_less : (c : Ordering) → is_lt c ≡ true → c ≡ Less
is_less Less h = refl
is_less Equal h = cc
is_less Greater h = cc

all_less : (n : Name) (ms : List Name) → list_all (λ m. is_lt (name_cmp n m)) ms ≡ true → AllByRecursion (λ m. name_cmp n m ≡ Less) ms
all_less n [] h = tt
all_less n (m ∷ ms) h = (is_less (name_cmp n m) (and_left _ _ h), all_less n ms (and_right _ _ h))

-- the test of the order as std says it
pub order_sorted : (ns : List Name) → are_in_order ns ≡ true → IsStrictlySortedBy name_cmp ns
unfolding IsStrictlySortedBy
order_sorted [] h = tt
order_sorted (n ∷ ns) h = (all_less n ns (and_left _ _ h), order_sorted ns (and_right _ _ h))

less_all : (n : Name) (ms : List Name) → AllByRecursion (λ m. name_cmp n m ≡ Less) ms → list_all (λ m. is_lt (name_cmp n m)) ms ≡ true
less_all n [] a = refl
less_all n (m ∷ ms) a = both (ap is_lt a.0) (less_all n ms a.1)

-- and back
pub sorted_order : (ns : List Name) → IsStrictlySortedBy name_cmp ns → are_in_order ns ≡ true
unfolding IsStrictlySortedBy
sorted_order [] s = refl
sorted_order (n ∷ ns) s = both (less_all n ns s.0) (sorted_order ns s.1)

-- ---- ids

pub ids_total : IsTotalOrder id_cmp
ids_total =
    then_total (on_total (λ (i : RequestId). i.ctime) int_cmp_total)
    (then_total (on_total (λ (i : RequestId). i.cusec) nat_cmp_total)
    (then_total (on_total (λ (i : RequestId). i.crealm) nat_list_cmp_total) (on_total (λ (i : RequestId). i.client) names_total)))

both_equal : (r s : Ordering) → is_eq (ordering_then r s) ≡ (is_eq r && is_eq s)
both_equal Less s = refl
both_equal Equal s = refl
both_equal Greater s = refl

grouped : (i n r c : Bool) → (((i && n) && r) && c) ≡ (i && (n && (r && c)))
grouped true true true c = refl
grouped true true false c = refl
grouped true false r c = refl
grouped false n r c = refl

unsigned_ties : (x y : ℕ) → (x == y) ≡ is_eq (nat_cmp x y)
unsigned_ties x y = sym (unsigned_tied x y)

-- ids are the same where none comes before the other
pub same_id_ties : (a b : RequestId) → is_same_id a b ≡ eq_by_cmp id_cmp a b
same_id_ties a b =
    let i : Ordering = int_cmp a.ctime b.ctime in
    let n : Ordering = nat_cmp a.cusec b.cusec in
    let r : Ordering = slice_cmp nat_cmp a.crealm b.crealm in
    let c : Ordering = name_cmp a.client b.client in
    grouped (is_eq i) (a.cusec == b.cusec) (bytes_eq a.crealm b.crealm) (is_same_name a.client b.client)
    ∙ (ap (λ x. is_eq i && (x && (bytes_eq a.crealm b.crealm && is_same_name a.client b.client))) (unsigned_ties a.cusec b.cusec)
    ∙ (ap (λ x. is_eq i && (is_eq n && (x && is_same_name a.client b.client))) (texts_ties a.crealm b.crealm)
    ∙ (ap (λ x. is_eq i && (is_eq n && (is_eq r && x))) (same_name_ties a.client b.client)
    ∙ sym (both_equal i (ordering_then n (ordering_then r c))
    ∙ (ap (λ x. is_eq i && x) (both_equal n (ordering_then r c))
    ∙ ap (λ x. is_eq i && (is_eq n && x)) (both_equal r c))))))

pub same_id_turned : (a b : RequestId) → eq_by_cmp id_cmp a b ≡ is_same_id b a
same_id_turned a b = (eq_by_cmp_equiv ids_total).symm a b ∙ sym (same_id_ties b a)

any_alike : {A : Type 0} (s t : A → Bool) → ((x : A) → s x ≡ t x) → (xs : List A) → list_any s xs ≡ list_any t xs
any_alike s t h [] = refl
any_alike s t h (x ∷ xs) = ap (λ b. b || list_any s xs) (h x) ∙ ap (λ b. t x || b) (any_alike s t h xs)

-- whether an id is held, by the order and by sameness
pub held_is_used : (q : RequestId) (used : List RequestId) → list_any (eq_by_cmp id_cmp q) used ≡ list_any (λ (x : RequestId). is_same_id x q) used
held_is_used q used = any_alike (eq_by_cmp id_cmp q) (λ (x : RequestId). is_same_id x q) (same_id_turned q) used

-- ---- places

prefix_alike : {A : Type 0} (s t : A → Bool) → ((x : A) → s x ≡ t x) → (xs : List A) → prefix_len (λ x. not (s x)) xs ≡ prefix_len (λ x. not (t x)) xs
prefix_alike s t h [] = refl
prefix_alike s t h (x ∷ xs) =
    ap (λ b. cond (not b) (1 + prefix_len (λ x. not (s x)) xs) 0) (h x)
    ∙ ap (λ n. cond (not (t x)) (1 + n) 0) (prefix_alike s t h xs)

-- tests that answer alike find one place
pub position_alike : {A : Type 0} (s t : A → Bool) → ((x : A) → s x ≡ t x) → (xs : List A) → position s xs ≡ position t xs
position_alike s t h xs = ap (λ n. cond (nat_lt n (length xs)) (Some n) None) (prefix_alike s t h xs)
