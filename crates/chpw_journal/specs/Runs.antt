-- The journals of runs of the service, one after the other, and the records in them.
use Rattle.std.specs.Prelude.{◌≡◌, ℕ, ◌≤◌, List, [], ◌∷◌, ◌++◌, length, true, IsSome, IfSome, if◌then◌else◌}
use Rattle.std.specs.List.{list_all}
use Rattle.chpw_rules.specs.declared.name.Name.{Name}
use Rattle.chpw_rules.specs.Names.{is_name}
use Rattle.chpw_rules.specs.Limits.{is_in, kvnos, iteration_counts, aes128_length, aes256_length}
use Rattle.chpw_table.specs.declared.history.Event.{Event}
use Rattle.chpw_table.specs.declared.history.Event.TheVariants.{Ask, Raise, Update}
use Rattle.chpw_table.specs.declared.history.Entry.{Entry}
use Rattle.chpw_record.specs.declared.key.KeyRow.{KeyRow}
use Rattle.chpw_table.specs.Requests.{target_of}
use Rattle.chpw_table.specs.State.{State, keys_held, kept_count, new_count}
use Rattle.chpw_table.specs.Decision.{newest_kvno}
use Rattle.chpw_table.specs.Holding.{is_count_in_range}
use Rattle.chpw_table.specs.Step.{new_key}
use Rattle.chpw_table.specs.Updates.{name_in, kind_of, key_in, update_fits}
use Rattle.chpw_table.specs.History.{is_accepted, step_entry, outcome, IsLegal}
use Rattle.chpw_table.specs.Journal.{journal}
use Rattle.chpw_record.specs.declared.record.KeyKind.TheVariants as kind
use Rattle.chpw_record.specs.declared.record.Record.{Record}
use Rattle.chpw_record.specs.declared.record.Record.TheVariants as record_of

-- the record of an event that is accepted
abbrev pub record_by : State → Event → Record
record_by s (Ask o v) = record_of.Key kind.Change (record { name = (target_of o).name; key = new_key s o })
record_by s (Raise count v) = record_of.Raise count
record_by s (Update u v) = record_of.Key (kind_of u) (record { name = name_in u; key = key_in (keys_held s (name_in u)) u })

abbrev pub event_records : State → Event → List Record
event_records s event = if is_accepted event then record_by s event ∷ [] else []

-- the records of all accepted entries, in their order
abbrev pub records_of : State → List Entry → List Record
records_of s [] = []
records_of s (e ∷ es) = event_records s e.event ++ records_of (step_entry s e) es

-- the same principals with the same keys, of which as many are kept
pub record SameKeys (s t : State) : Type 0 where
  pub kept : kept_count s ≡ kept_count t
  pub keys : (name : Name) → keys_held s name ≡ keys_held t name

-- what a state within the limits holds: a configuration's opening does, and what follows from it
pub record IsSound (s : State) : Type 0 where
  pub count : is_in iteration_counts (new_count s) ≡ true
  pub names : (name : Name) → IsSome (keys_held s name) → is_name name ≡ true
  pub versions : (name : Name) → IfSome (keys_held s name) (λ keys. newest_kvno keys ≤ kvnos.high)
  pub counts : (name : Name) → IfSome (keys_held s name) (λ keys. list_all is_count_in_range keys ≡ true)

-- both keys have as many bytes as their types say
abbrev pub IsWholeKey : KeyRow → Type 0
IsWholeKey key = (length key.aes128 ≡ aes128_length) × (length key.aes256 ≡ aes256_length)

-- what an accepted event adds is well-formed: its keys have the lengths of their types, and its count, or what the KDC says,
-- is within the limits
abbrev pub BringsWhole : State → Event → Type 0
BringsWhole s (Ask o v) = IsWholeKey (new_key s o)
BringsWhole s (Raise count v) = is_in iteration_counts count ≡ true
BringsWhole s (Update u v) = (update_fits u ≡ true) × IsWholeKey (key_in (keys_held s (name_in u)) u)

abbrev pub AreWhole : State → List Entry → Type 0
AreWhole s [] = Unit {0}
AreWhole s (e ∷ es) = (is_accepted e.event ≡ true → BringsWhole s e.event) × AreWhole (step_entry s e) es

-- a run of the service: the state that it opened with, and its history
pub record Run : Type 0 where
  pub opening : State
  pub history : List Entry

-- each run opens with the principals that the one before it left, the first with those of a state, and has a legal
-- history
abbrev pub AreRuns : State → List Run → Type 0
AreRuns s [] = Unit {0}
AreRuns s (r ∷ rs) = SameKeys s r.opening × IsSound r.opening
    × IsLegal r.opening r.history × AreWhole r.opening r.history × AreRuns (outcome r.opening r.history) rs

-- each also opens with the iteration count of new keys that the one before it left, the first with that of a state
abbrev pub KeepCount : State → List Run → Type 0
KeepCount s [] = Unit {0}
KeepCount s (r ∷ rs) = (new_count s ≡ new_count r.opening) × KeepCount (outcome r.opening r.history) rs

-- what the runs left: a journal, its records, and a state with the principals and the count
abbrev pub journals : List Run → List ℕ
journals [] = []
journals (r ∷ rs) = journal r.opening r.history ++ journals rs

abbrev pub records_in : List Run → List Record
records_in [] = []
records_in (r ∷ rs) = records_of r.opening r.history ++ records_in rs

abbrev pub last_state : State → List Run → State
last_state s [] = s
last_state s (r ∷ rs) = last_state (outcome r.opening r.history) rs
