-- The rule of the versions: there is a list that the version shows, and each view that knows whose list
-- it is has a beginning of it.
use Rattle.std.specs.Prelude.{◌≡◌, ℕ, ◌+◌, ◌<◌, ◌%◌, zero, suc, List, [], ◌∷◌, ◌++◌, length, true, false, Option, Some, None}
use mathlib.Core.Option.{some}
use mathlib.Core.List.{IsPrefix}
use lib.ListN.{get_elem?}
use Rattle.logbook.specs.Pages.{Book as LogbookName}
use Rattle.chpw_rules.specs.declared.name.Name.{Name}
use Rattle.chpw_rules.specs.Names.{is_same_name}
use Rattle.chpw_table.specs.State.{State, kept_count}
use Rattle.chpw_table.specs.declared.change.AcceptedChange.{AcceptedChange}
use Rattle.chpw_table.specs.Versions.{shown, shown_count}
use Rattle.chpw_changelog.specs.declared.change.NumberedChange.{NumberedChange}
use Rattle.chpw_changelog.specs.declared.change.NumberedChange.TheVariants.{Keys, Count}
use Rattle.chpw_changelog.specs.declared.change.KeysChange.{KeysChange}
use Rattle.chpw_changelog.specs.declared.change.Whose.{Whose}
use Rattle.chpw_changelog.specs.declared.change.Whose.TheVariants.{Number, Short}
use Rattle.chpw_changelog.specs.declared.entry.LogEntry.{LogEntry}
use Rattle.chpw_changelog.specs.Changes.{named, name_at, name_whose, short_name}
use Rattle.chpw_changelog.specs.Pens.{changes_in, opening_state, opening_table}
use Rattle.chpw_snapshots.specs.declared.snapshot.Snapshot.{Snapshot}
use Rattle.chpw_snapshots.specs.declared.snapshot.ShownPrefix.{ShownPrefix}
use Rattle.chpw_snapshots.specs.declared.snapshot.Operation.{Operation}
use Rattle.chpw_snapshots.specs.declared.view.View.{View}
use Rattle.chpw_snapshots.specs.Rows.{Rowed, rows_after, names_of_rows, names_of, all_rows, place_in, shown_in, adopts, added_limit, IsPositive}
use Rattle.chpw_snapshots.specs.Rising.{IsNextVersion, AreNextVersions}
use Rattle.chpw_snapshots.specs.Preparing.{has_name, added_names}
use Rattle.chpw_snapshots.specs.Histories.{AreAccepted}

-- one more operation
abbrev pub applied : Snapshot → Operation → Snapshot
applied x o = record x {
  rows = rows_after o.change x.rows;
  len = (x.len + 1) % 4294967296;
  last = o.change;
  seen = o.seen;
}

-- the first of these names that is the same as this one has this number
abbrev pub IsNumberOf : List Name → Name → ℕ → Type 0
IsNumberOf [] name n = ⊥
IsNumberOf (m ∷ ms) name zero = is_same_name m name ≡ true
IsNumberOf (m ∷ ms) name (suc n) = (is_same_name m name ≡ false) × IsNumberOf ms name n

-- whose row the rows have of a name: that of a principal of the opening, an added one, or none
abbrev pub IsWhose : Rowed → Name → Option Whose → Type 0
IsWhose r name None = (place_in r.rows name ≡ None) × (has_name (names_of_rows r.added) name ≡ false)
IsWhose r name (Some (Number n)) = place_in r.rows name ≡ Some n
IsWhose r name (Some (Short s)) =
    (place_in r.rows name ≡ None) × (short_name s ≡ name) × (has_name (names_of_rows r.added) name ≡ true)

-- A change of keys is one of a principal of the opening, by its number, or of another name, which has an added row, or room
-- for one if it is adopted.
abbrev pub HasPlace : State → List AcceptedChange → NumberedChange → Type 0
HasPlace opening list (Keys (Number n) c) = IsNumberOf (names_of opening) (name_at opening.principals n) n
HasPlace opening list (Keys (Short s) c) =
    (has_name (names_of opening) (short_name s) ≡ false)
    × (adopts c ≡ true → has_name (added_names opening list) (short_name s) ≡ false → length (added_names opening list) < added_limit)
HasPlace opening list (Count n) = Unit {0}

-- changes of this one's keys have their place, and are of this name
pub record IsPlaceOf (opening : State) (list : List AcceptedChange) (name : Name) (whose : Whose) : Type 0 where
  pub named : name_whose opening whose ≡ name
  pub has : (c : KeysChange) → HasPlace opening list (Keys whose c)

-- it can be shown after this list: it has its place, and may come next
abbrev pub CanBeShown : State → List AcceptedChange → NumberedChange → Type 0
CanBeShown opening list c = HasPlace opening list c × IsNextVersion opening list (named opening c)

abbrev pub list_by : List AcceptedChange → AcceptedChange → ℕ → List AcceptedChange
list_by before last zero = []
list_by before last (suc n) = before ++ last ∷ []

-- the list that the version shows, all but the last change of which its mark knows
abbrev pub list_shown : List LogEntry → Snapshot → List AcceptedChange
list_shown root x = list_by (changes_in root x.seen.log) (named (opening_state root) x.last) x.len

-- the list that is kept of the version, likewise
abbrev pub list_of : List LogEntry → ShownPrefix → List AcceptedChange
list_of root s = list_by (changes_in root s.seen.log) (named (opening_state root) s.last) s.len

-- what is kept is of this log, and counts the list's changes
abbrev pub IsKnown : LogbookName → List LogEntry → ShownPrefix → Type 0
IsKnown log root s = (s.seen.book ≡ log) × (s.len ≡ length (list_of root s))

-- The version is of the list named by this log and root, and shows these changes of it, which a legal
-- history accepted and along which versions rise. Its rows count them, and those that the table had accepted before.
pub record ShowsList (log : LogbookName) (root : List LogEntry) (list : List AcceptedChange) (x : Snapshot) : Type 0 where
  pub root_book : x.root.book ≡ log
  pub root_log : x.root.log ≡ root
  pub seen_book : x.seen.book ≡ log
  pub len_is : x.len ≡ length list
  pub few : (opening_table root).seen < 2147483648
  pub seen_is : x.rows.seen ≡ (opening_table root).seen + length list
  pub names : names_of_rows x.rows.rows ≡ names_of (opening_state root)
  pub added : names_of_rows x.rows.added ≡ added_names (opening_state root) list
  pub kept : x.rows.kept ≡ kept_count (opening_state root)
  pub policy : x.rows.policy ≡ shown_count (opening_state root) list
  pub shows : (name : Name) → shown_in (all_rows x.rows) name ≡ shown (opening_state root) list name
  pub rise : AreNextVersions (opening_state root) [] list
  pub accepted : AreAccepted (opening_state root) list
  pub positive : IsPositive x.rows
  pub last : 0 < length list → list ≡ changes_in root x.seen.log ++ named (opening_state root) x.last ∷ []

-- a view that knows nothing yet
abbrev pub unknown : View
unknown = record { known = false; number = 0; log_name = 0; cells_name = 0; root = []; front = [] }

abbrev pub log_of : View → LogbookName
log_of v = record { number = v.number; log_name = v.log_name; cells_name = v.cells_name }

-- the view knows whose list it is
abbrev pub IsOf : LogbookName → List LogEntry → View → Type 0
IsOf log root v = (v.known ≡ true) × (log_of v ≡ log) × (v.root ≡ root)

abbrev pub IsTied : Snapshot → List AcceptedChange → View → Type 0
IsTied x list v = v.known ≡ true → (log_of v ≡ x.root.book) × (v.root ≡ x.root.log) × IsPrefix v.front list

abbrev pub IsRuled : Snapshot → List View → Type 0
IsRuled x views =
    (list : List AcceptedChange) × ShowsList x.root.book x.root.log list x
    × ((seat : ℕ) (v : View) → get_elem? views seat ≡ some v → IsTied x list v)

-- a reader enters: the list goes on from what it saw, and the version shows it
abbrev pub Looked : View → Snapshot → Snapshot → View → Type 0
Looked v x y w =
    v.known ≡ true → IsOf (log_of v) v.root w × IsPrefix v.front w.front × ShowsList (log_of v) v.root w.front y

-- the writer publishes: the list that it knew is extended by the last change
abbrev pub Published : View → Snapshot → Snapshot → View → Type 0
Published v x y w = w ≡ record v { front = v.front ++ named (opening_state v.root) y.last ∷ [] }

-- the writer learns whose list it is
abbrev pub Settled : View → Snapshot → Snapshot → View → Type 0
Settled v x y w = IsOf y.root.book y.root.log w × (w.front ≡ [])

-- the operations that wait: none, or this change, which can be shown after this list
abbrev pub IsWaiting : LogbookName → List LogEntry → List AcceptedChange → List Operation → Option NumberedChange → Type 0
IsWaiting log root list ops None = ops ≡ []
IsWaiting log root list ops (Some c) =
    (o : Operation) × (ops ≡ o ∷ []) × (o.change ≡ c) × (o.seen.book ≡ log) × (changes_in root o.seen.log ≡ list)
    × CanBeShown (opening_state root) list o.change

-- what the writer holds shows this list, and it knows that
abbrev pub Publishes : LogbookName → List LogEntry → View → Snapshot → List AcceptedChange → Type 0
Publishes log root v x list = IsOf log root v × (v.front ≡ list) × ShowsList log root list x

-- what a reader that isn't lent out knows
abbrev pub front_by : {R : Type 0} → Option R → (R → View) → List AcceptedChange
front_by None f = []
front_by (Some r) f = (f r).front
