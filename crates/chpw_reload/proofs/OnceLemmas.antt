-- No name is repeated in the next configuration.
use Rattle.std.proofs.Common.{◌≡◌, List, [], ◌∷◌, ◌++◌, append_assoc, map, Bool, true, false, not, ◌||◌, refl, ◌∙◌, ap}
use Rattle.std.specs.List.{AllByRecursion, list_any}
use Rattle.std.specs.List.Sorted.{IsStrictlySortedBy}
use Rattle.std.specs.declared.cmp.Ordering.TheVariants.{Less}
use Rattle.std.specs.Ordering.{is_eq}
use Rattle.std.proofs.lemmas.List.{append-nil}
use Rattle.std.proofs.lemmas.List.Elements.{All-weaker, filter_passes, recursion_from_All}
use Rattle.std.proofs.lemmas.List.Folds.{list_any-append}
use Rattle.std.proofs.lemmas.List.Kept.{IsStrictlySortedBy-filter}
use Rattle.chpw_rules.specs.declared.name.Name.{Name}
use Rattle.chpw_rules.specs.declared.config.Config.{Config}
use Rattle.chpw_rules.specs.declared.config.PrincipalRow.{PrincipalRow}
use Rattle.chpw_rules.specs.Names.{is_same_name, name_cmp}
use Rattle.chpw_rules.specs.Fitting.{are_distinct, is_same_principal, none_again}
use Rattle.chpw_table.specs.State.{State}
use Rattle.chpw_table.proofs.BoolLemmas.{and_left, and_right, both}
use Rattle.chpw_table.proofs.OrderLemmas.{same_name_ties, same_name_turned}
use Rattle.chpw_report.specs.Configurations.{names_of, row_of}
use Rattle.chpw_reload.specs.Next.{is_unknown, lacked, next_config}
use Rattle.chpw_reload.proofs.KeyLemmas.{is_among, among_principals}

-- the name's row is the same as none of these
abbrev HasNone : State → List PrincipalRow → Name → Type 0
HasNone s rows name = list_any (is_same_principal (row_of s name)) rows ≡ false

-- a name after another is not the same
later_differs : (n m : Name) → name_cmp n m ≡ Less → is_same_name m n ≡ false
later_differs n m h = same_name_turned m n ∙ (same_name_ties n m ∙ ap is_eq h)

still_none : (s : State) (before : List PrincipalRow) (n : Name) (ms : List Name)
    → AllByRecursion (HasNone s before) ms → AllByRecursion (λ m. name_cmp n m ≡ Less) ms
    → AllByRecursion (HasNone s (before ++ row_of s n ∷ [])) ms
still_none s before n [] none later = tt
still_none s before n (m ∷ ms) none later = (
  list_any-append (is_same_principal (row_of s m)) before (row_of s n ∷ [])
      ∙ (ap (λ b. b || (is_same_name m n || false)) none.0 ∙ ap (λ b. b || false) (later_differs n m later.0)),
  still_none s before n ms none.1 later.1,
)

-- rows of names in their order, none of which has a row before them
rows_once : (s : State) (before : List PrincipalRow) (ns : List Name) → IsStrictlySortedBy name_cmp ns → AllByRecursion (HasNone s before) ns
    → none_again is_same_principal before (map (row_of s) ns) ≡ true
unfolding IsStrictlySortedBy
rows_once s before [] order none = refl
rows_once s before (n ∷ ns) order none =
    both (ap not none.0) (rows_once s (before ++ row_of s n ∷ []) ns order.1 (still_none s before n ns none.1 order.0))

both_once : {A : Type 0} (same : A → A → Bool) (before xs ys : List A) → none_again same before xs ≡ true → none_again same (before ++ xs) ys ≡ true
    → none_again same before (xs ++ ys) ≡ true
both_once same before [] ys first second = rw append-nil at second
both_once same before (x ∷ xs) ys first second =
    both (and_left _ _ first) (both_once same (before ++ x ∷ []) xs ys (and_right _ _ first) (rw append_assoc second))

none_in_nothing : (s : State) (ns : List Name) → AllByRecursion (HasNone s []) ns
none_in_nothing s [] = tt
none_in_nothing s (n ∷ ns) = (refl, none_in_nothing s ns)

row_among : (s t : State) (name : Name) (ns : List Name) → list_any (is_same_principal (row_of t name)) (map (row_of s) ns) ≡ is_among name ns
row_among s t name [] = refl
row_among s t name (n ∷ ns) =
    ap (λ b. b || list_any (is_same_principal (row_of t name)) (map (row_of s) ns)) (same_name_turned name n)
    ∙ ap (λ b. is_same_name n name || b) (row_among s t name ns)

-- an unknown name has no row
unknown_has_none : (closed renewed : State) (name : Name) → is_unknown renewed name ≡ true → HasNone closed (map (row_of renewed) (names_of renewed)) name
unknown_has_none closed renewed name h =
    row_among renewed closed name (names_of renewed) ∙ (among_principals renewed.principals name ∙ ap not h)

pub next_once : (settings : Config) (closed renewed : State) → IsStrictlySortedBy name_cmp (names_of closed) → IsStrictlySortedBy name_cmp (names_of renewed)
    → are_distinct is_same_principal (next_config settings closed renewed).principals ≡ true
next_once settings closed renewed first second =
    let known : List PrincipalRow = map (row_of renewed) (names_of renewed) in
    let none = recursion_from_All (HasNone closed known) (lacked closed renewed)
    (All-weaker (λ name. is_unknown renewed name ≡ true) (HasNone closed known) (unknown_has_none closed renewed)
    (lacked closed renewed) (filter_passes (is_unknown renewed) (names_of closed))) in
    both_once is_same_principal [] known (map (row_of closed) (lacked closed renewed))
    (rows_once renewed [] (names_of renewed) second (none_in_nothing renewed (names_of renewed)))
    (rows_once closed known (lacked closed renewed) (IsStrictlySortedBy-filter name_cmp (is_unknown renewed) (names_of closed) first) none)
