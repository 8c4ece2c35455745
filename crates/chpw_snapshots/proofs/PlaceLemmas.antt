-- Whose row a name has, and what its changes need.
use Rattle.std.proofs.Common.{◌≡◌, List, Bool, true, false, Option, Some, None, refl, sym, ◌∙◌, ap, subst, find}
use Rattle.std.specs.Prelude.{◌||◌, IsSome, IfSome, IfNone, option_map}
use Rattle.std.proofs.lemmas.Option.{none-some}
use Rattle.chpw_rules.specs.declared.name.Name.{Name}
use Rattle.chpw_rules.specs.Names.{is_same_name}
use Rattle.chpw_table.specs.State.{State}
use Rattle.chpw_table.specs.declared.change.AcceptedChange.{AcceptedChange}
use Rattle.chpw_table.specs.Versions.{Shown}
use Rattle.chpw_changelog.specs.declared.change.Whose.{Whose}
use Rattle.chpw_changelog.specs.declared.change.Whose.TheVariants.{Number, Short}
use Rattle.chpw_changelog.specs.Changes.{name_at}
use Rattle.chpw_snapshots.specs.declared.row.Row.{Row}
use Rattle.chpw_snapshots.specs.Rows.{Rowed, names_of_rows, names_of, all_rows, found_keys, keys_as_shown, shown_in}
use Rattle.chpw_snapshots.specs.Preparing.{has_name, added_names, has_row}
use Rattle.chpw_snapshots.specs.Following.{IsNumberOf, IsWhose, IsPlaceOf}
use Rattle.chpw_snapshots.proofs.RowLemmas.{placed_number, numbered_there, unplaced_missing, at_number, either_false, found_second, missing_unfound}

or_true : (b : Bool) → (b || true) ≡ true
or_true true = refl
or_true false = refl

-- a row that was found is one that changes of the name have
pub is_place : (opening : State) (list : List AcceptedChange) (r : Rowed) (name : Name) (whose : Whose)
    → names_of_rows r.rows ≡ names_of opening → names_of_rows r.added ≡ added_names opening list
    → IsWhose r name (Some whose) → IsPlaceOf opening list name whose × (has_row opening list name ≡ true)
is_place opening list r name (Number n) names added is =
    let number : IsNumberOf (names_of opening) name n = subst (λ ns. IsNumberOf ns name n) names (placed_number r.rows name n is) in
    let same : name_at opening.principals n ≡ name = at_number opening.principals name n number in (
      record { named = same; has = λ c. subst (λ m. IsNumberOf (names_of opening) m n) (sym same) number },
      ap (λ b. b || has_name (added_names opening list) name) (numbered_there (names_of opening) name n number),
    )
is_place opening list r name (Short s) names added is =
    let lacks : has_name (names_of opening) name ≡ false = subst (λ ns. has_name ns name ≡ false) names (unplaced_missing r.rows name is.0) in
    let there : has_name (added_names opening list) name ≡ true = subst (λ ns. has_name ns name ≡ true) added is.2 in (
      record {
        named = is.1;
        has = λ c. (
          subst (λ m. has_name (names_of opening) m ≡ false) (sym is.1) lacks,
          λ a missing. absurd (cc (there, ap (λ m. has_name (added_names opening list) m) is.1, missing)),
        );
      },
      ap (λ b. has_name (names_of opening) name || b) there ∙ or_true (has_name (names_of opening) name),
    )

-- without one the name has none
pub no_place : (opening : State) (list : List AcceptedChange) (r : Rowed) (name : Name)
    → names_of_rows r.rows ≡ names_of opening → names_of_rows r.added ≡ added_names opening list
    → IsWhose r name None → has_row opening list name ≡ false
no_place opening list r name names added is =
    let lacks : has_name (names_of opening) name ≡ false = subst (λ ns. has_name ns name ≡ false) names (unplaced_missing r.rows name is.0) in
    let missing : has_name (added_names opening list) name ≡ false = subst (λ ns. has_name ns name ≡ false) added is.1 in
    ap (λ b. b || has_name (added_names opening list) name) lacks ∙ missing

-- both
pub is_any_place : (opening : State) (list : List AcceptedChange) (r : Rowed) (name : Name) (found : Option Whose)
    → names_of_rows r.rows ≡ names_of opening → names_of_rows r.added ≡ added_names opening list
    → IsWhose r name found
    → IfSome found (λ (whose : Whose). IsPlaceOf opening list name whose × (has_row opening list name ≡ true))
    × IfNone found (has_row opening list name ≡ false)
is_any_place opening list r name None names added is = (tt, no_place opening list r name names added is)
is_any_place opening list r name (Some whose) names added is = (is_place opening list r name whose names added is, tt)

-- a name that is shown has a row
pub shown_has_row : (opening : State) (list : List AcceptedChange) (r : Rowed) (name : Name) (row : Shown)
    → names_of_rows r.rows ≡ names_of opening → names_of_rows r.added ≡ added_names opening list
    → shown_in (all_rows r) name ≡ Some row → has_row opening list name ≡ false → ⊥
shown_has_row opening list r name row names added is none =
    let apart = either_false (has_name (names_of opening) name) (has_name (added_names opening list) name) none in
    let lacks : has_name (names_of_rows r.rows) name ≡ false = subst (λ ns. has_name ns name ≡ false) (sym names) apart.0 in
    let missing : has_name (names_of_rows r.added) name ≡ false = subst (λ ns. has_name ns name ≡ false) (sym added) apart.1 in
    let unfound : find (λ (q : Row). is_same_name q.name name) (all_rows r) ≡ None =
    found_second (λ (q : Row). is_same_name q.name name) r.rows r.added (missing_unfound r.rows name lacks)
    ∙ missing_unfound r.added name missing in
    none-some row (sym (ap (λ (o : Option Row). option_map keys_as_shown (found_keys o)) unfound) ∙ is)

pub shown_found : (opening : State) (list : List AcceptedChange) (r : Rowed) (name : Name) (found : Option Whose) (row : Shown)
    → names_of_rows r.rows ≡ names_of opening → names_of_rows r.added ≡ added_names opening list
    → IsWhose r name found → shown_in (all_rows r) name ≡ Some row → IsSome found
shown_found opening list r name None row names added is shows =
    absurd (shown_has_row opening list r name row names added shows (no_place opening list r name names added is))
shown_found opening list r name (Some whose) row names added is shows = refl
