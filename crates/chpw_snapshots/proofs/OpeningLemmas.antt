-- Rows that were made one by one show the opening, where each has the name of its principal and shows
-- what that name holds.
use Rattle.std.proofs.Common.{◌≡◌, ◌<◌, List, [], ◌∷◌, map, Bool, true, false, Option, None, refl, sym, ◌∙◌, ap}
use Rattle.std.specs.Prelude.{option_map, All}
use Rattle.std.proofs.lemmas.List.Elements.{All-head, All-tail}
use Rattle.chpw_rules.specs.declared.name.Name.{Name}
use Rattle.chpw_rules.specs.Names.{is_same_name}
use Rattle.chpw_table.specs.declared.table.Principal.{Principal}
use Rattle.chpw_table.specs.Agreement.{Held}
use Rattle.chpw_table.specs.State.{State, keys_held, kept_count, new_count}
use Rattle.chpw_table.specs.Versions.{Shown, shown_keys}
use Rattle.chpw_table.proofs.NameLemmas.{is_same_name-Decides}
use Rattle.chpw_table.proofs.KeyLemmas.{keys_in}
use Rattle.chpw_snapshots.specs.declared.row.Row.{Row}
use Rattle.chpw_snapshots.specs.Rows.{Rowed, names_of_rows, names_of, row_shown, shown_in, IsPositive, ShowsOpening}

-- the row shows what its name holds
abbrev pub RowShows : State → Row → Type 0
RowShows opening r = row_shown r ≡ option_map shown_keys (keys_held opening r.name)

abbrev names_in : List Principal → List Name
names_in ps = map (λ (p : Principal). p.name) ps

-- whatever the names show, where a name that none of the principals has shows nothing
shown_among : (shows : Name → Option Shown) (name : Name) (rows : List Row) (ps : List Principal)
    → names_of_rows rows ≡ names_in ps → All (λ (r : Row). row_shown r ≡ shows r.name) rows
    → (keys_in ps name ≡ None → shows name ≡ None) → shown_in rows name ≡ shows name
shown_among shows name [] [] same all none = sym (none refl)
shown_among shows name [] (p ∷ ps) same all none = absurd (cc)
shown_among shows name (r ∷ rs) [] same all none = absurd (cc)
shown_among shows name (r ∷ rs) (p ∷ ps) same all none =
    let behind : names_of_rows rs ≡ names_in ps = cc in
    at (is_same_name r.name name) refl (shown_among shows name rs ps behind (All-tail (λ (q : Row). row_shown q ≡ shows q.name) r rs all))
  where
    at : (b : Bool) → is_same_name r.name name ≡ b
        → ((keys_in ps name ≡ None → shows name ≡ None) → shown_in rs name ≡ shows name)
        → shown_in (r ∷ rs) name ≡ shows name
    at true e rest = rw e (All-head (λ (q : Row). row_shown q ≡ shows q.name) r rs all ∙ ap shows ((is_same_name-Decides r.name name).0 e))
    at false e rest =
        let head : r.name ≡ p.name = cc in
        let past : is_same_name p.name name ≡ false = sym (ap (λ (n : Name). is_same_name n name) head) ∙ e in
        rw e (rest (λ k. none (rw past k)))

-- so what is published of them shows the opening
pub shows_opening : (opening : Held) (r : Rowed)
    → names_of_rows r.rows ≡ names_of opening.state → r.added ≡ [] → r.kept ≡ kept_count opening.state
    → r.policy ≡ new_count opening.state → r.seen ≡ opening.seen → opening.seen < 2147483648
    → All (RowShows opening.state) r.rows → IsPositive r → ShowsOpening opening r
shows_opening opening r same added kept policy seen few all positive =
    let held : Name → Option Shown = λ name. option_map shown_keys (keys_held opening.state name) in
    record {
      names = same;
      added = added;
      kept = kept;
      policy = policy;
      seen = seen;
      few = few;
      shows = λ name. shown_among held name r.rows opening.state.principals same all (λ none. ap (λ o. option_map shown_keys o) none);
      positive = positive;
    }
