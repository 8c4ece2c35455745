-- What was accepted, as code carries it and as contracts see it.
use Rattle.std.specs.Prelude.{◌≡◌, ℕ, zero, suc, ◌<◌, Bool, false, List, [], ◌∷◌, ◌++◌, length, take, nat_le}
use Rattle.chpw_rules.specs.declared.name.Name.{Name}
use Rattle.chpw_table.specs.declared.table.Principal.{Principal}
use Rattle.chpw_table.specs.declared.change.KeyChange.{KeyChange}
use Rattle.chpw_table.specs.declared.change.AcceptedChange.{AcceptedChange}
use Rattle.chpw_table.specs.declared.change.AcceptedChange.TheVariants as accepted
use Rattle.chpw_table.specs.State.{State}
use Rattle.chpw_changelog.specs.declared.change.Whose.{Whose}
use Rattle.chpw_changelog.specs.declared.change.Whose.TheVariants.{Number, Short}
use Rattle.chpw_changelog.specs.declared.change.KeysChange.{KeysChange}
use Rattle.chpw_changelog.specs.declared.change.KeysChange.TheVariants.{Key, Adopted, Lifted, Removed}
use Rattle.chpw_changelog.specs.declared.change.NumberedChange.{NumberedChange}
use Rattle.chpw_changelog.specs.declared.change.NumberedChange.TheVariants.{Keys, Count}
use Rattle.chpw_changelog.specs.declared.short_name.ShortName.{ShortName}

-- the name of the principal with this number, in the opening's order; the empty name if there is none
abbrev pub name_at : List Principal → ℕ → Name
name_at [] n = record { parts = [] }
name_at (p ∷ ps) zero = p.name
name_at (p ∷ ps) (suc n) = name_at ps n

-- the name of one component that the bytes are
abbrev pub short_name : ShortName → Name
short_name s = record { parts = take s.len s.bytes ∷ [] }

abbrev pub has_short_part : List (List ℕ) → Bool
has_short_part (part ∷ []) = nat_le (length part) 128
has_short_part _ = false

-- one component, of at most 128 bytes
abbrev pub is_short : Name → Bool
is_short name = has_short_part name.parts

-- the name of the principal that a change is of
abbrev pub name_whose : State → Whose → Name
name_whose opening (Number n) = name_at opening.principals n
name_whose opening (Short s) = short_name s

abbrev pub key_change : Name → ℕ → ℕ → KeyChange
key_change name kvno count = record { name = name; kvno = kvno; count = count }

-- the change of this name's keys
abbrev pub change_of_name : Name → KeysChange → AcceptedChange
change_of_name name (Key kvno count) = accepted.Key (key_change name kvno count)
change_of_name name (Adopted kvno count) = accepted.Adopted (key_change name kvno count)
change_of_name name (Lifted kvno) = accepted.Lifted name kvno
change_of_name name Removed = accepted.Removed name

-- any change, with its principal's name
abbrev pub named : State → NumberedChange → AcceptedChange
named opening (Keys whose change) = change_of_name (name_whose opening whose) change
named opening (Count n) = accepted.Count n

-- the list ends with this change, unless it is empty
abbrev pub EndsWith : State → List AcceptedChange → NumberedChange → Type 0
EndsWith opening list c = 0 < length list → (rest : List AcceptedChange) × (list ≡ rest ++ named opening c ∷ [])
