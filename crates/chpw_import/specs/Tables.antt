-- What the entries of a keytab offer: for each slot (a name, a version and an encryption type) its latest usable key,
-- and for each name the newest version.
use Rattle.std.specs.Prelude.{◌≡◌, ℕ, ◌+◌, ◌≤◌, nat_lt, Bool, false, if◌then◌else◌, max, List, [], ◌∷◌, Option, Some, None, Result, Ok, Err}
use Rattle.std.specs.Option.{unwrap_or}
use Rattle.std.specs.Ordering.{int_cmp, nat_cmp, ordering_then, eq_by_cmp}
use Rattle.std.specs.declared.cmp.Ordering.{Ordering}
use Rattle.std.specs.BTreeMap.{BTreeMap, get}
use Rattle.krb_keys.specs.declared.key.Key.{Key}
use Rattle.krb_keytab.specs.declared.entry.KeytabEntry.{KeytabEntry}
use Rattle.chpw_rules.specs.declared.name.Name.{Name}
use Rattle.chpw_rules.specs.Limits.{kvnos}
use Rattle.chpw_rules.specs.Names.{is_same_name, name_cmp}
use Rattle.chpw_import.specs.declared.left.Reason.{Reason}
use Rattle.chpw_import.specs.declared.slot.Slot.{Slot}
use Rattle.chpw_import.specs.declared.slot.Found.{Found}
use Rattle.chpw_import.specs.declared.table.Table.{Table}
use Rattle.chpw_import.specs.Entries.{named, key_in}

-- the order of slots: names in their order, then the newest version first, then etype 18 first
abbrev pub slot_cmp : Slot → Slot → Ordering
slot_cmp a b = ordering_then (name_cmp a.name b.name) (ordering_then (nat_cmp b.kvno.0 a.kvno.0) (int_cmp b.etype.0 a.etype.0))

-- a key that was added before the one that is held
abbrev pub is_older : Option Found → Found → Bool
is_older None next = false
is_older (Some held) next = nat_lt next.timestamp held.timestamp

-- of two keys, of which the second follows in the file, the later one
abbrev pub last_of_two : Option Found → Option Found → Option Found
last_of_two held None = held
last_of_two held (Some next) = if is_older held next then held else Some next

-- the slot of an entry with this name
abbrev pub slot_in : Name → KeytabEntry → Slot
slot_in name e = record { name = name; kvno = record { 0 = e.kvno }; etype = record { 0 = e.etype } }

-- the key of the index-th entry, if it is of this slot
abbrev pub offered : Slot → ℕ → KeytabEntry → Result Name Reason → Result Key Reason → Option Found
offered slot index e (Ok name) (Ok key) =
    if eq_by_cmp slot_cmp (slot_in name e) slot then Some (record { index = index; timestamp = e.timestamp; key = key }) else None
offered slot index e (Ok name) (Err why) = None
offered slot index e (Err why) key = None

abbrev pub found_in : List ℕ → Slot → ℕ → KeytabEntry → Option Found
found_in realm slot index e = offered slot index e (named realm e) (key_in e)

-- the latest usable key of a slot, where the first of these entries is the index-th of the file
abbrev pub latest : List ℕ → Slot → ℕ → List KeytabEntry → Option Found
latest realm slot index [] = None
latest realm slot index (e ∷ es) = last_of_two (found_in realm slot index e) (latest realm slot (index + 1) es)

-- a version number that isn't above a configuration's limit
abbrev pub HasKvno : KeytabEntry → Type 0
HasKvno e = e.kvno ≤ kvnos.high

-- the version of an entry, if it is one of this name
abbrev pub version_of : Name → KeytabEntry → Result Name Reason → ℕ
version_of name e (Ok other) = if is_same_name other name then e.kvno else 0
version_of name e (Err why) = 0

-- the newest version of a name; 0 if there is none
abbrev pub newest : List ℕ → Name → List KeytabEntry → ℕ
newest realm name [] = 0
newest realm name (e ∷ es) = max (version_of name e (named realm e)) (newest realm name es)

abbrev pub newest_at : BTreeMap Name ℕ → Name → ℕ
newest_at newest name = unwrap_or (get name_cmp newest name) 0

-- keys of slots, to which one is added that follows the others in the file
abbrev pub Puts : Slot → Found → BTreeMap Slot Found → BTreeMap Slot Found → Type 0
Puts slot next m n = (s : Slot)
    → get slot_cmp n s ≡ last_of_two (get slot_cmp m s) (if eq_by_cmp slot_cmp slot s then Some next else None)

-- newest versions of which one is raised
abbrev pub Raises : Name → ℕ → BTreeMap Name ℕ → BTreeMap Name ℕ → Type 0
Raises name kvno m n = (other : Name) → newest_at n other ≡ max (newest_at m other) (if is_same_name name other then kvno else 0)

-- what a table holds of entries
pub record Holds (realm : List ℕ) (es : List KeytabEntry) (t : Table) : Type 0 where
  pub found : (s : Slot) → get slot_cmp t.found s ≡ latest realm s 0 es
  pub newest : (n : Name) → newest_at t.newest n ≡ newest realm n es

-- a table that takes the index-th entry
pub record Takes (realm : List ℕ) (index : ℕ) (e : KeytabEntry) (t u : Table) : Type 0 where
  pub found : (s : Slot) → get slot_cmp u.found s ≡ last_of_two (get slot_cmp t.found s) (found_in realm s index e)
  pub newest : (n : Name) → newest_at u.newest n ≡ max (newest_at t.newest n) (version_of n e (named realm e))

-- a table that is to take the rest of the entries, of which the first is the index-th
pub record HoldsBefore (realm : List ℕ) (index : ℕ) (rest es : List KeytabEntry) (t : Table) : Type 0 where
  pub found : (s : Slot) → last_of_two (get slot_cmp t.found s) (latest realm s index rest) ≡ latest realm s 0 es
  pub newest : (n : Name) → max (newest_at t.newest n) (newest realm n rest) ≡ newest realm n es
