-- The published rows, and what they show: a row for each principal of the opening, in the order of their names, and after
-- them one for each name that was adopted since and isn't among those, in their order too.
use Rattle.std.specs.Prelude.{◌≡◌, ℕ, ◌+◌, ◌%◌, ◌<◌, ◌≤◌, zero, suc, List, [], ◌∷◌, ◌++◌, Bool, true, false, ◌&&◌, if◌then◌else◌, nat_lt}
use Rattle.std.specs.Prelude.{Option, Some, None, option_map, find, position, map, take, length, All}
use Rattle.std.specs.List.{insert}
use Rattle.std.specs.Ordering.{is_lt}
use Rattle.chpw_rules.specs.declared.name.Name.{Name}
use Rattle.chpw_rules.specs.Names.{is_same_name, name_cmp}
use Rattle.chpw_table.specs.declared.table.Principal.{Principal}
use Rattle.chpw_table.specs.declared.table.Lookup.{Lookup}
use Rattle.chpw_table.specs.State.{State, keys_held, new_count, kept_count}
use Rattle.chpw_table.specs.Agreement.{Held}
use Rattle.chpw_table.specs.declared.change.AcceptedChange.{AcceptedChange}
use Rattle.chpw_table.specs.Versions.{Shown, shown, shown_count, shown_keys}
use Rattle.chpw_changelog.specs.declared.change.Whose.TheVariants.{Number, Short}
use Rattle.chpw_changelog.specs.declared.change.KeysChange.{KeysChange}
use Rattle.chpw_changelog.specs.declared.change.KeysChange.TheVariants.{Key, Adopted, Lifted, Removed}
use Rattle.chpw_changelog.specs.declared.change.NumberedChange.{NumberedChange}
use Rattle.chpw_changelog.specs.declared.change.NumberedChange.TheVariants.{Keys, Count}
use Rattle.chpw_changelog.specs.Changes.{short_name}
use Rattle.chpw_snapshots.specs.declared.keys_shown.KeysShown.{KeysShown}
use Rattle.chpw_snapshots.specs.declared.row.Row.{Row}

-- the rows of the opening's principals and those that were added, how many counts of a principal are kept, the count of new
-- keys, and the changes accepted so far
pub record Rowed : Type 0 where
  pub rows : List Row
  pub added : List Row
  pub kept : ℕ
  pub policy : ℕ
  pub seen : ℕ

-- the most rows that are added
abbrev pub added_limit : ℕ
added_limit = 10000

abbrev pub names_of_rows : List Row → List Name
names_of_rows rows = map (λ (r : Row). r.name) rows

abbrev pub names_of : State → List Name
names_of opening = map (λ (p : Principal). p.name) opening.principals

-- the place of the first row of a name
abbrev pub place_in : List Row → Name → Option ℕ
place_in rows name = position (λ (r : Row). is_same_name r.name name) rows

-- the counts of what is shown; of nothing none
abbrev pub counts_of : Option KeysShown → List ℕ
counts_of None = []
counts_of (Some keys) = keys.counts

-- each of the row's counts is at least 1
abbrev pub HasPositive : Row → Type 0
HasPositive r = All (λ n. 1 ≤ n) (counts_of r.shown)

-- each count of all rows, and that of new keys, is at least 1
abbrev pub IsPositive : Rowed → Type 0
IsPositive r = (1 ≤ r.policy) × All HasPositive r.rows × All HasPositive r.added

-- a key in front of these counts, of which the newest are kept
abbrev pub with_key : ℕ → ℕ → ℕ → List ℕ → KeysShown
with_key kept kvno count counts = record { kvno = kvno; counts = take kept (count ∷ counts) }

-- what is shown after a change of the keys
abbrev pub keys_after : ℕ → KeysChange → Option KeysShown → Option KeysShown
keys_after kept (Key kvno count) shown = option_map (λ (keys : KeysShown). with_key kept kvno count keys.counts) shown
keys_after kept (Adopted kvno count) shown = Some (with_key kept kvno count (counts_of shown))
keys_after kept (Lifted kvno) shown = option_map (λ (keys : KeysShown). record keys { kvno = kvno }) shown
keys_after kept Removed shown = None

abbrev pub row_after : ℕ → KeysChange → Row → Row
row_after kept c r = record r { shown = keys_after kept c r.shown }

-- the change in the row with this number
abbrev pub changed_at : ℕ → KeysChange → ℕ → List Row → List Row
changed_at kept c n [] = []
changed_at kept c zero (r ∷ rs) = row_after kept c r ∷ rs
changed_at kept c (suc n) (r ∷ rs) = r ∷ changed_at kept c n rs

abbrev pub adopts : KeysChange → Bool
adopts (Adopted kvno count) = true
adopts _ = false

-- the row of a name of which nothing is shown
abbrev pub blank_row : Name → Row
blank_row name = record { name = name; shown = None }

-- the rows with one more, in front of the first whose name is greater
abbrev pub with_row : Row → List Row → List Row
with_row row [] = row ∷ []
with_row row (r ∷ rs) = if is_lt (name_cmp row.name r.name) then row ∷ r ∷ rs else r ∷ with_row row rs

-- a row of this name is there if it is put in at this place
abbrev pub IsPlaceFor : List Row → Name → ℕ → Type 0
IsPlaceFor rows name place = (place ≤ length rows) × ((row : Row) → row.name ≡ name → insert rows place row ≡ with_row row rows)

-- the change of this name among the rows that were added, where its row is there; and otherwise a row more, in its order,
-- if there is a key to show
abbrev pub added_at : ℕ → KeysChange → Name → Option ℕ → List Row → List Row
added_at kept c name (Some n) added = changed_at kept c n added
added_at kept c name None added =
    if adopts c && nat_lt (length added) added_limit then with_row (row_after kept c (blank_row name)) added else added

abbrev pub added_after : ℕ → KeysChange → Name → List Row → List Row
added_after kept c name added = added_at kept c name (place_in added name) added

-- one more change: of a row by its number, of an added one by its name, or of the count of new keys
abbrev pub rows_after : NumberedChange → Rowed → Rowed
rows_after (Keys (Number n) c) r = record r { rows = changed_at r.kept c n r.rows; seen = (r.seen + 1) % 4294967296 }
rows_after (Keys (Short s) c) r = record r { added = added_after r.kept c (short_name s) r.added; seen = (r.seen + 1) % 4294967296 }
rows_after (Count n) r = record r { policy = n; seen = (r.seen + 1) % 4294967296 }

abbrev pub keys_as_shown : KeysShown → Shown
keys_as_shown keys = record { kvno = keys.kvno; counts = keys.counts }

abbrev pub row_shown : Row → Option Shown
row_shown r = option_map keys_as_shown r.shown

abbrev pub found_keys : Option Row → Option KeysShown
found_keys None = None
found_keys (Some r) = r.shown

-- the keys in the first row of a name
abbrev pub keys_in : List Row → Name → Option KeysShown
keys_in rows name = found_keys (find (λ (r : Row). is_same_name r.name name) rows)

-- what the rows show of a name
abbrev pub shown_in : List Row → Name → Option Shown
shown_in rows name = option_map keys_as_shown (keys_in rows name)

-- all rows
abbrev pub all_rows : Rowed → List Row
all_rows r = r.rows ++ r.added

-- The rows have the opening's names, in its order, and show of each name what it holds; counts are at
-- least 1. The table that the list opens with may have accepted changes before, fewer than 2^31.
pub record ShowsOpening (opening : Held) (r : Rowed) : Type 0 where
  pub names : names_of_rows r.rows ≡ names_of opening.state
  pub added : r.added ≡ []
  pub kept : r.kept ≡ kept_count opening.state
  pub policy : r.policy ≡ new_count opening.state
  pub seen : r.seen ≡ opening.seen
  pub few : opening.seen < 2147483648
  pub shows : (name : Name) → shown_in r.rows name ≡ option_map shown_keys (keys_held opening.state name)
  pub positive : IsPositive r

-- a lookup after this many changes
abbrev pub lookup_with : ℕ → ℕ → Shown → Lookup
lookup_with policy seen s = record { kvno = s.kvno; held = s.counts; policy = policy; seen = seen }

-- What a lookup shows of a name after the table of the opening and these changes: none for an unknown
-- name. It counts the changes that the table had accepted before, and these.
abbrev pub lookup_after : Held → List AcceptedChange → Name → Option Lookup
lookup_after opening changes name =
    option_map (lookup_with (shown_count opening.state changes) (opening.seen + length changes)) (shown opening.state changes name)
