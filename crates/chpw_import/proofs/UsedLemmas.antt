-- The row of a name among rows in the order of their names, as a search by halves finds it.
use mathlib.Core.Path.{fun_ext}
use Rattle.std.proofs.Common.{◌≡◌, ◌∙◌, sym, ap, refl, ℕ, zero, suc, ◌+◌, ◌<◌, Bool, false, cond}
use Rattle.std.proofs.Common.{List, [], ◌∷◌, map, length, get_or, Some, None, Err, inl, inr, arith}
use Rattle.std.proofs.lemmas.Bool.{cases_lt}
use Rattle.std.proofs.lemmas.Cmp.{alike_right}
use Rattle.std.proofs.lemmas.List.{get_or-map, length-map}
use Rattle.std.proofs.lemmas.List.Sorted.{searchable_from_sorted}
use Rattle.std.proofs.lemmas.Map.Keys.{Less-from_sorted}
use Rattle.std.specs.List.{AllByRecursion, find}
use Rattle.std.specs.List.Sorted.{IsStrictlySortedBy, IsSortedBy, IsBinarySearchResult, IsPartitionPoint}
use Rattle.std.specs.declared.cmp.Ordering.{Ordering}
use Rattle.std.specs.declared.cmp.Ordering.TheVariants.{Less, Equal, Greater}
use Rattle.std.specs.Ordering.{eq_by_cmp, is_eq, is_lt, ordering_reverse}
use Rattle.chpw_rules.specs.declared.name.Name.{Name}
use Rattle.chpw_rules.specs.declared.config.PrincipalRow.{PrincipalRow}
use Rattle.chpw_rules.specs.Names.{is_same_name, name_cmp}
use Rattle.chpw_import.specs.LeftOut.{row_keys, used_keys}
use Rattle.chpw_import.proofs.SlotLemmas.{names_total, ties}

abbrev pub name_of : PrincipalRow → Name
name_of row = row.name

abbrev has : Name → PrincipalRow → Bool
has q row = eq_by_cmp name_cmp row.name q

same_test : (q : Name) → has q ≡ (λ (row : PrincipalRow). is_same_name row.name q)
same_test q = fun_ext (λ (row : PrincipalRow). ties row.name q)

at_map : (P : Name → Type 0) (rows : List PrincipalRow) (i : ℕ) (d : PrincipalRow)
    → AllByRecursion P (map name_of rows) → i < length rows → P (get_or rows i d).name
at_map P [] i d a h = absurd (omega (arith, h))
at_map P (x ∷ xs) zero d a h = a.0
at_map P (x ∷ xs) (suc i) d a h = at_map P xs i d a.1 (omega (arith, h))

-- ---- where a row has the name

first_at : (q : Name) (rows : List PrincipalRow) (i : ℕ) (d : PrincipalRow) → IsStrictlySortedBy name_cmp (map name_of rows) → i < length rows
    → ((d : PrincipalRow) → name_cmp (get_or rows i d).name q ≡ Equal) → find (has q) rows ≡ Some (get_or rows i d)
unfolding IsStrictlySortedBy
first_at q [] i d s h e = absurd (omega (arith, h))
first_at q (x ∷ xs) zero d s h e = ap (λ (c : Ordering). cond (is_eq c) (Some x) (find (has q) xs)) (e x)
first_at q (x ∷ xs) (suc i) d s h e =
    let before : name_cmp x.name q ≡ Less =
    sym (alike_right names_total (get_or xs i x).name q x.name (e x)) ∙ at_map (λ (y : Name). name_cmp x.name y ≡ Less) xs i x s.0 (omega (arith, h)) in
    ap (λ (c : Ordering). cond (is_eq c) (Some x) (find (has q) xs)) before ∙ first_at q xs i d s.1 (omega (arith, h)) e

pub used_at : (q : Name) (rows : List PrincipalRow) (i : ℕ) (d : PrincipalRow) → IsStrictlySortedBy name_cmp (map name_of rows) → i < length rows
    → ((d : PrincipalRow) → name_cmp (get_or rows i d).name q ≡ Equal) → used_keys q rows ≡ (get_or rows i d).keys
used_at q rows i d s h e =
    sym (ap (λ (p : PrincipalRow → Bool). row_keys (find p rows)) (same_test q)) ∙ ap row_keys (first_at q rows i d s h e)

-- ---- where none has it

none_at : (q : Name) (rows : List PrincipalRow) → ((k : ℕ) (d : PrincipalRow) → k < length rows → has q (get_or rows k d) ≡ false) → find (has q) rows ≡ None
none_at q [] h = refl
none_at q (x ∷ xs) h =
    ap (λ (b : Bool). cond b (Some x) (find (has q) xs)) (h 0 x (omega arith)) ∙ none_at q xs (λ k d l. h (suc k) d (omega (arith, l)))

-- rows in order are as a search wants them
turned : (c : Ordering) → c ≡ Less → is_lt (ordering_reverse c) ≡ false
turned c h = ap (λ (x : Ordering). is_lt (ordering_reverse x)) h

searchable : (rows : List PrincipalRow) → IsStrictlySortedBy name_cmp (map name_of rows) → IsSortedBy (λ a b. is_lt (name_cmp a.name b.name)) rows
searchable rows s k d low high =
    let keys : List Name = map name_of rows in
    let below : name_cmp (get_or keys k d.name) (get_or keys (k + 1) d.name) ≡ Less =
    Less-from_sorted name_cmp keys k (k + 1) d.name s (omega arith) (rw (length-map rows name_of) high) in
    let here : name_cmp (get_or rows k d).name (get_or rows (k + 1) d).name ≡ Less =
    rw (get_or-map name_of rows k d d.name (omega (arith, high)), get_or-map name_of rows (k + 1) d d.name high) at below in
    ap is_lt (names_total.antisymm (get_or rows (k + 1) d).name (get_or rows k d).name) ∙ turned _ here

greater_not : (c : Ordering) → c ≡ Greater → is_eq c ≡ false
greater_not c h = ap is_eq h

less_not : (c : Ordering) → c ≡ Less → is_eq c ≡ false
less_not c h = ap is_eq h

apart : (q : Name) (rows : List PrincipalRow) (i : ℕ) → IsPartitionPoint (λ row. name_cmp row.name q ≡ Less) (λ row. name_cmp row.name q ≡ Greater) rows i
    → (k : ℕ) (d : PrincipalRow) → k < length rows → has q (get_or rows k d) ≡ false
apart q rows i p k d l = elim (cases_lt k i) [
  | inl h ↦ less_not _ (p.0 k d (omega arith) h)
  | inr h ↦ greater_not _ (p.1 k d h l)
]

pub unused_at : (q : Name) (rows : List PrincipalRow) (i : ℕ) → IsStrictlySortedBy name_cmp (map name_of rows)
    → IsBinarySearchResult (λ (row : PrincipalRow). name_cmp row.name q) rows (Err i)
    → used_keys q rows ≡ []
unused_at q rows i s h =
    sym (ap (λ (p : PrincipalRow → Bool). row_keys (find p rows)) (same_test q))
    ∙ ap row_keys (none_at q rows (apart q rows i (h (searchable_from_sorted names_total name_of rows q (searchable rows s)))))
