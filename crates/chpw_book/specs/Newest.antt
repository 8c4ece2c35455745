-- The keys of a name at a desk.
use Rattle.std.specs.Prelude.{◌≡◌, List, [], ◌∷◌, Option, Some, None, find}
use Rattle.chpw_rules.specs.declared.name.Name.{Name}
use Rattle.chpw_record.specs.declared.key.KeyRow.{KeyRow}
use Rattle.chpw_table.specs.declared.digest.Digest.{Digest}
use Rattle.chpw_table.specs.declared.history.Entry.{Entry}
use Rattle.chpw_table.specs.Digests.{is_derived_in}
use Rattle.chpw_table.specs.State.{State, keys_held}
use Rattle.chpw_table.specs.History.{IsLegal, outcome}

-- the first of a name's keys, if the name is held and has one
abbrev pub newest_of : Option (List KeyRow) → Option KeyRow
newest_of None = None
newest_of (Some []) = None
newest_of (Some (k ∷ ks)) = Some k

-- the first of a name's keys that is a password's, if the name is held and has one
abbrev pub made_by : Digest → Option (List KeyRow) → Option KeyRow
made_by digest None = None
made_by digest (Some ks) = find (is_derived_in digest.derived) ks

-- after some legal history from the opening, these are the name's keys, or the name isn't held
pub record AreHeldAfter (opening : State) (name : Name) (keys : Option (List KeyRow)) : Type 0 where
  pub before : List Entry
  pub legal : IsLegal opening before
  pub held : keys ≡ keys_held (outcome opening before) name

-- of keys that may be those of the name, this is the newest
abbrev pub IsNewestHeld : (Name → Option (List KeyRow) → Type 0) → Name → Option KeyRow → Type 0
IsNewestHeld holds name key = (keys : Option (List KeyRow)) × holds name keys × (key ≡ newest_of keys)

-- of keys that may be those of the name, this is the newest that is the password's
abbrev pub IsMadeHeld : (Name → Option (List KeyRow) → Type 0) → Name → Digest → Option KeyRow → Type 0
IsMadeHeld holds name digest key = (keys : Option (List KeyRow)) × holds name keys × (key ≡ made_by digest keys)
