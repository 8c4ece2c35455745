-- Where each name is above the one before it, no name is repeated.
use Rattle.std.proofs.Common.{◌≡◌, ◌∙◌, ap, refl, Bool, true, false, not, ◌&&◌, ◌||◌, List, [], ◌∷◌, ◌++◌}
use Rattle.std.specs.List.{AllByRecursion, list_any}
use Rattle.std.specs.Ordering.{is_eq, is_lt}
use Rattle.std.specs.declared.cmp.Ordering.{Ordering}
use Rattle.std.specs.declared.cmp.Ordering.TheVariants.{Less, Equal, Greater}
use Rattle.std.proofs.lemmas.Bool.{and_parts}
use Rattle.chpw_rules.specs.declared.name.Name.{Name}
use Rattle.chpw_rules.specs.declared.config.PrincipalRow.{PrincipalRow}
use Rattle.chpw_rules.specs.Names.{is_same_name, name_cmp}
use Rattle.chpw_rules.specs.Fitting.{are_distinct, is_same_principal, none_again}
use Rattle.chpw_rules.specs.Ascending.{ascend_from, names_ascend}
use Rattle.chpw_rules.proofs.NameOrderLemmas.{names_total, same_name_ties, same_name_turned}

-- the name of each row is below this one
abbrev AreBelow : Name → List PrincipalRow → Type 0
AreBelow name rows = AllByRecursion (λ (row : PrincipalRow). name_cmp row.name name ≡ Less) rows

is_less : (c : Ordering) → is_lt c ≡ true → c ≡ Less
is_less Less h = refl
is_less Equal h = cc
is_less Greater h = cc

both : (a b : Bool) → a ≡ true → b ≡ true → (a && b) ≡ true
both true b h k = k
both false b h k = cc

-- a name above another is not the same
above_differs : (n m : Name) → name_cmp n m ≡ Less → is_same_name m n ≡ false
above_differs n m h = same_name_turned m n ∙ (same_name_ties n m ∙ ap is_eq h)

none_same : (row : PrincipalRow) (rows : List PrincipalRow) → AreBelow row.name rows → list_any (is_same_principal row) rows ≡ false
none_same row [] below = refl
none_same row (r ∷ rs) below =
    ap (λ (b : Bool). b || list_any (is_same_principal row) rs) (above_differs r.name row.name below.0) ∙ none_same row rs below.1

below_more : (n m : Name) (rows : List PrincipalRow) → name_cmp n m ≡ Less → AreBelow n rows → AreBelow m rows
below_more n m [] less below = tt
below_more n m (r ∷ rs) less below = (names_total.trans r.name n m below.0 less, below_more n m rs less below.1)

below_last : (name : Name) (row : PrincipalRow) (rows : List PrincipalRow) → AreBelow name rows → name_cmp row.name name ≡ Less
    → AreBelow name (rows ++ row ∷ [])
below_last name row [] below less = (less, tt)
below_last name row (r ∷ rs) below less = (below.0, below_last name row rs below.1 less)

none_ascending : (before : List PrincipalRow) (row : PrincipalRow) (rows : List PrincipalRow) → AreBelow row.name before
    → ascend_from row.name rows ≡ true → none_again is_same_principal before (row ∷ rows) ≡ true
none_ascending before row [] below h = both _ _ (ap not (none_same row before below)) refl
none_ascending before row (next ∷ rest) below h =
    let (above, more) = and_parts (is_lt (name_cmp row.name next.name)) (ascend_from next.name rest) h in
    let less : name_cmp row.name next.name ≡ Less = is_less (name_cmp row.name next.name) above in
    both _ _ (ap not (none_same row before below))
    (none_ascending (before ++ row ∷ []) next rest (below_last next.name row before (below_more row.name next.name before less below) less) more)

-- rows in the order of their names
pub ascending_distinct : (rows : List PrincipalRow) → names_ascend rows ≡ true → are_distinct is_same_principal rows ≡ true
ascending_distinct [] h = refl
ascending_distinct (row ∷ rows) h = none_ascending [] row rows tt h
