-- Rows that were added, in the order of their names: what a search finds, and where a row is put in.
use Rattle.std.proofs.Common.{◌≡◌, ℕ, zero, suc, ◌<◌, ◌≤◌, List, [], ◌∷◌, length, get_or, true, false, if◌then◌else◌, nat_lt}
use Rattle.std.proofs.Common.{Option, Some, None, Result, Ok, Err, refl, sym, ◌∙◌, ap, subst, arith}
use Rattle.std.specs.Prelude.{◌&&◌, position, IfOk, IfErr}
use Rattle.std.specs.List.{insert}
use Rattle.std.specs.List.Sorted.{IsStrictlySortedBy, IsBinarySearchResult, IsSearchInRange}
use Rattle.std.specs.BTreeSet.{insert_key}
use Rattle.std.specs.declared.cmp.Ordering.{Ordering}
use Rattle.std.specs.declared.cmp.Ordering.TheVariants.{Less, Equal, Greater}
use Rattle.std.specs.Ordering.{eq_by_cmp, is_eq, is_lt, match_ordering, ordering_reverse}
use Rattle.std.proofs.lemmas.List.Sorted.{searchable_from_sorted}
use Rattle.chpw_ordered_keys.proofs.RowLemmas.{absent, found, searchable}
use Rattle.chpw_ordered_keys.proofs.OrderLemmas.{sorted_insert}
use Rattle.chpw_rules.specs.declared.name.Name.{Name}
use Rattle.chpw_rules.specs.Names.{is_same_name, name_cmp}
use Rattle.chpw_table.proofs.OrderLemmas.{names_total, same_name_ties, same_name_turned, position_alike}
use Rattle.chpw_changelog.specs.declared.change.KeysChange.{KeysChange}
use Rattle.chpw_snapshots.specs.declared.row.Row.{Row}
use Rattle.chpw_snapshots.specs.Rows.{names_of_rows, place_in, row_after, adopts, blank_row, added_at, added_limit, with_row, IsPlaceFor}
use Rattle.chpw_snapshots.specs.Preparing.{has_name}
use Rattle.chpw_snapshots.proofs.RowLemmas.{either_false, either_way, names_changed, unplaced_missing}

-- the rows are in the order of their names
abbrev pub HasOrder : List Row → Type 0
HasOrder rows = IsStrictlySortedBy name_cmp (names_of_rows rows)

abbrev name_of_row : Row → Name
name_of_row r = r.name

-- no rows are
pub none_ordered : (rows : List Row) → rows ≡ [] → HasOrder rows
unfolding IsStrictlySortedBy
none_ordered rows e = subst HasOrder (sym e) tt

-- ---- what a search finds

same_place : (rows : List Row) (name : Name) → position (λ (r : Row). eq_by_cmp name_cmp r.name name) rows ≡ place_in rows name
same_place rows name = position_alike (λ (r : Row). eq_by_cmp name_cmp r.name name)
    (λ (r : Row). is_same_name r.name name) (λ r. sym (same_name_ties r.name name)) rows

-- where the names are equal, the row of the name stands
pub found_place : (rows : List Row) (name : Name) (i : ℕ) → HasOrder rows
    → i < length rows → ((d : Row) → name_cmp (get_or rows i d).name name ≡ Equal) → place_in rows name ≡ Some i
found_place rows name i order within equal =
    sym (same_place rows name) ∙ found name_cmp names_total name_of_row name rows i order within equal

-- where the search finds none, there is none
pub found_none : (rows : List Row) (name : Name) (i : ℕ) → HasOrder rows
    → IsBinarySearchResult (λ (r : Row). name_cmp r.name name) rows (Err i) → place_in rows name ≡ None
found_none rows name i order by =
    sym (same_place rows name) ∙ absent name_cmp names_total name_of_row name rows i order by

-- ---- where a row is put in

greater_there : (a b : Name) → name_cmp a b ≡ Greater → name_cmp b a ≡ Less
greater_there a b h = names_total.antisymm b a ∙ ap ordering_reverse h

less_there : (a b : Name) → name_cmp a b ≡ Less → name_cmp b a ≡ Greater
less_there a b h = names_total.antisymm b a ∙ ap ordering_reverse h

-- between smaller names and greater ones it is in front of the first greater one
put_there : (row : Row) (rows : List Row) (i : ℕ) → i ≤ length rows
    → ((k : ℕ) (d : Row) → k < i → name_cmp (get_or rows k d).name row.name ≡ Less)
    → ((k : ℕ) (d : Row) → i ≤ k → k < length rows → name_cmp (get_or rows k d).name row.name ≡ Greater)
    → insert rows i row ≡ with_row row rows
put_there row [] zero b f g = refl
put_there row [] (suc i) b f g = absurd (omega (arith, b))
put_there row (r ∷ rs) zero b f g =
    let first : name_cmp row.name r.name ≡ Less = greater_there r.name row.name (g 0 r (omega arith) (omega arith)) in
    ap (λ c. if is_lt c then row ∷ r ∷ rs else r ∷ with_row row rs) (sym first)
put_there row (r ∷ rs) (suc i) b f g =
    let later : name_cmp row.name r.name ≡ Greater = less_there r.name row.name (f 0 r (omega arith)) in
    ap (λ ws. r ∷ ws) (put_there row rs i (omega (arith, b)) (λ k d l. f (suc k) d (omega (arith, l)))
    (λ k d l m. g (suc k) d (omega (arith, l)) (omega (arith, m))))
    ∙ ap (λ c. if is_lt c then row ∷ r ∷ rs else r ∷ with_row row rs) (sym later)

-- which the search says
pub place_for_it : (rows : List Row) (name : Name) (i : ℕ) → HasOrder rows → i ≤ length rows
    → IsBinarySearchResult (λ (r : Row). name_cmp r.name name) rows (Err i) → IsPlaceFor rows name i
place_for_it rows name i order within by =
    let p = by (searchable_from_sorted names_total name_of_row rows name (searchable name_cmp names_total name_of_row name rows order)) in (
      within,
      λ row same. put_there row rows i within
          (λ k d l. subst (λ n. name_cmp (get_or rows k d).name n ≡ Less) (sym same) (p.0 k d (omega arith) l))
          (λ k d l m. subst (λ n. name_cmp (get_or rows k d).name n ≡ Greater) (sym same) (p.1 k d l m)),
    )

-- all that a search by name answers
pub searched : (rows : List Row) (name : Name) (place : Result ℕ ℕ) → HasOrder rows → IsSearchInRange place (length rows)
    → IsBinarySearchResult (λ (r : Row). name_cmp r.name name) rows place
    → IfOk place (λ i. place_in rows name ≡ Some i) × IfErr place (λ i. place_in rows name ≡ None) × IfErr place (IsPlaceFor rows name)
searched rows name (Ok i) order within by = (found_place rows name i order within by, tt, tt)
searched rows name (Err i) order within by = (tt, found_none rows name i order by, place_for_it rows name i order within by)

-- ---- the names

not_equal : (a b : Name) → is_same_name a b ≡ false → name_cmp b a ≡ Equal → ⊥
not_equal a b other equal =
    let same : is_same_name b a ≡ true = same_name_ties b a ∙ ap is_eq equal in
    let turned = same_name_turned b a in
    cc

-- the name of a row more is put in by the order of names
pub names_with_row : (row : Row) (rows : List Row) → has_name (names_of_rows rows) row.name ≡ false
    → names_of_rows (with_row row rows) ≡ insert_key name_cmp (names_of_rows rows) row.name
names_with_row row [] none = refl
names_with_row row (r ∷ rs) none =
    let apart = either_false (is_same_name r.name row.name) (has_name (names_of_rows rs) row.name) none in
    at (name_cmp row.name r.name) refl apart.0 (names_with_row row rs apart.1)
  where
    at : (c : Ordering) → name_cmp row.name r.name ≡ c → is_same_name r.name row.name ≡ false
        → names_of_rows (with_row row rs) ≡ insert_key name_cmp (names_of_rows rs) row.name
        → names_of_rows (if is_lt c then row ∷ r ∷ rs else r ∷ with_row row rs)
        ≡ match_ordering c (row.name ∷ r.name ∷ names_of_rows rs) (r.name ∷ names_of_rows rs) (r.name ∷ insert_key name_cmp (names_of_rows rs) row.name)
    at Less e other rest = refl
    at Equal e other rest = absurd (not_equal r.name row.name other e)
    at Greater e other rest = ap (λ ns. r.name ∷ ns) rest

-- and they stay in order
pub order_after : (kept : ℕ) (c : KeysChange) (name : Name) (added : List Row) (o : Option ℕ) → place_in added name ≡ o
    → HasOrder added → HasOrder (added_at kept c name o added)
order_after kept c name added (Some n) is order = subst (IsStrictlySortedBy name_cmp) (sym (names_changed kept c n added)) order
order_after kept c name added None is order =
    let row : Row = row_after kept c (blank_row name) in
    let names = names_with_row row added (unplaced_missing added name is) in
    either_way HasOrder (adopts c && nat_lt (length added) added_limit) (with_row row added) added
    (subst (IsStrictlySortedBy name_cmp) (sym names) (sorted_insert name_cmp names_total name (names_of_rows added) order)) order
