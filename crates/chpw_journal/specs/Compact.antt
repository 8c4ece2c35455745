-- A compact journal: the few records that lead from an opening, the state that a configuration opens with, to
-- the keys and the count of another state, in place of all that led there.
use Rattle.std.specs.Prelude.{◌≡◌, ℕ, ◌+◌, ◌≤◌, ◌<◌, List, [], ◌∷◌, ◌++◌, length, map, filter, Bool, true, ◌&&◌}
use Rattle.std.specs.Prelude.{◌==◌, nat_lt, bytes_eq, if◌then◌else◌, Option, Some, None, is_none, IfSome}
use Rattle.std.specs.List.{flat_map}
use Rattle.std.specs.List.Sorted.{IsStrictlySortedBy}
use Rattle.std.specs.Cmp.Lexicographic.{pointwise}
use Rattle.chpw_rules.specs.declared.name.Name.{Name}
use Rattle.chpw_rules.specs.Limits.{is_in, kvnos, iteration_counts}
use Rattle.chpw_rules.specs.Names.{is_name, name_cmp}
use Rattle.chpw_record.specs.declared.key.KeyRow.{KeyRow}
use Rattle.chpw_record.specs.declared.record.KeyKind.{KeyKind}
use Rattle.chpw_record.specs.declared.record.KeyKind.TheVariants as kind
use Rattle.chpw_record.specs.declared.record.Record.{Record}
use Rattle.chpw_record.specs.declared.record.Record.TheVariants as record_of
use Rattle.chpw_table.specs.declared.table.Principal.{Principal}
use Rattle.chpw_table.specs.State.{State, keys_held, kept_count, new_count}
use Rattle.chpw_table.specs.Decision.{newest_kvno}
use Rattle.chpw_table.specs.Updates.{blank_key}
use Rattle.chpw_journal.specs.Runs.{IsSound, IsWholeKey}

-- the same version, iteration count and bytes
abbrev pub is_same_key : KeyRow → KeyRow → Bool
is_same_key a b = (a.kvno == b.kvno) && ((a.count == b.count) && (bytes_eq a.aes128 b.aes128 && bytes_eq a.aes256 b.aes256))

abbrev pub are_same_keys : List KeyRow → List KeyRow → Bool
are_same_keys keys others = pointwise is_same_key keys others

-- a record that puts a key in front of older ones: of a change where its version is the one after theirs, else of a key that
-- is adopted, which may have any higher one
abbrev pub newer_kind : KeyRow → List KeyRow → KeyKind
newer_kind key older = if key.kvno == newest_kvno older + 1 then kind.Change else kind.Adopt

-- the records that give a principal these keys, newest first: the oldest by one of this kind, each newer one in front of it
abbrev pub key_records : KeyKind → Name → List KeyRow → List Record
key_records first name [] = []
key_records first name (key ∷ []) = record_of.Key first (record { name = name; key = key }) ∷ []
key_records first name (key ∷ older) =
    key_records first name older ++ record_of.Key (newer_kind key older) (record { name = name; key = key }) ∷ []

-- Those that lead from the keys of a name to others: none if they are the same. A base begins the keys of a name that has
-- others, an adopted key those of one that has none; and one that is to have none is removed.
abbrev pub records_between : Name → Option (List KeyRow) → Option (List KeyRow) → List Record
records_between name None None = []
records_between name None (Some keys) = key_records kind.Adopt name keys
records_between name (Some before) None = record_of.Key kind.Remove (record { name = name; key = blank_key }) ∷ []
records_between name (Some before) (Some keys) = if are_same_keys before keys then [] else key_records kind.Base name keys

abbrev pub name_records : State → State → Name → List Record
name_records opening s name = records_between name (keys_held opening name) (keys_held s name)

-- a raise, if the count is greater than the opening's
abbrev pub raise_records : State → State → List Record
raise_records opening s = if nat_lt (new_count opening) (new_count s) then record_of.Raise (new_count s) ∷ [] else []

abbrev pub names_of : State → List Name
names_of s = map (λ (p : Principal). p.name) s.principals

-- the state doesn't hold the name
abbrev pub lacks_name : State → Name → Bool
lacks_name s name = is_none (keys_held s name)

-- the names that are held and that the opening lacks, in their order
abbrev pub joined_names : State → State → List Name
joined_names opening s = filter (lacks_name opening) (names_of s)

-- the raise, and then the records of the opening's principals and of those that joined them, in their order
abbrev pub compacted : State → State → List Record
compacted opening s =
    raise_records opening s ++ (flat_map (name_records opening s) (names_of opening) ++ flat_map (name_records opening s) (joined_names opening s))

-- ---- what can be led to so

-- version and iteration count are within the limits
pub record KeyInRange (key : KeyRow) : Type 0 where
  pub kvno : is_in kvnos key.kvno ≡ true
  pub count : is_in iteration_counts key.count ≡ true

-- the version is above the newest of these, if there are any
abbrev pub IsAfter : KeyRow → List KeyRow → Type 0
IsAfter key [] = Unit {0}
IsAfter key (next ∷ older) = next.kvno < key.kvno

-- keys within the limits, newest first, whose versions rise
abbrev pub AreInRow : List KeyRow → Type 0
AreInRow [] = Unit {0}
AreInRow (key ∷ older) = KeyInRange key × IsAfter key older × AreInRow older

-- at least one such key, and no more than are kept
pub record AreKeptInRow (kept : ℕ) (keys : List KeyRow) : Type 0 where
  pub some : 1 ≤ length keys
  pub few : length keys ≤ kept
  pub row : AreInRow keys

-- each principal holds such keys: a fitting configuration's opening does, and what follows from it
abbrev pub HoldsInRow : State → Type 0
HoldsInRow s = (name : Name) → IfSome (keys_held s name) (AreKeptInRow (kept_count s))

-- a record has a name, and keys with as many bytes as their types say
abbrev pub IsWholeRecord : Record → Type 0
IsWholeRecord (record_of.Key kind c) = (is_name c.name ≡ true) × IsWholeKey c.key
IsWholeRecord (record_of.Raise count) = Unit {0}

abbrev pub AreWholeRecords : List Record → Type 0
AreWholeRecords [] = Unit {0}
AreWholeRecords (r ∷ rs) = IsWholeRecord r × AreWholeRecords rs

-- a state's names are in their order, each once, as a table's do
abbrev pub HasOrder : State → Type 0
HasOrder s = IsStrictlySortedBy name_cmp (names_of s)

-- A compact journal may be made for a state over an opening: the state is within the limits and holds keys in a row; both
-- have their names in order and keep as many keys; and the records that are written are whole.
pub record MayCompact (opening s : State) : Type 0 where
  pub sound : IsSound s
  pub row : HoldsInRow s
  pub whole : AreWholeRecords (compacted opening s)
  pub kept : kept_count opening ≡ kept_count s
  pub order : HasOrder opening × HasOrder s
