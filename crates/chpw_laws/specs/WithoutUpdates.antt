-- An old password where the KDC says nothing: in histories without updates the keys that come in front are those of accepted
-- changes, no name is removed, and no version changes.
use Rattle.std.specs.Prelude.{◌≡◌, ℕ, ◌+◌, ◌<◌, ◌≤◌, List, [], ◌∷◌, ◌++◌, length, take, filter, Contains, Bool, true, false, ◌&&◌}
use Rattle.chpw_rules.specs.declared.name.Name.{Name}
use Rattle.chpw_rules.specs.Names.{is_same_name}
use Rattle.chpw_table.specs.declared.request.Opened.{Opened}
use Rattle.chpw_table.specs.declared.verdict.Verdict.TheVariants.{Done}
use Rattle.chpw_table.specs.declared.history.Event.{Event}
use Rattle.chpw_table.specs.declared.history.Event.TheVariants.{Ask, Update}
use Rattle.chpw_table.specs.declared.history.Entry.{Entry}
use Rattle.chpw_table.specs.Requests.{target_of}
use Rattle.chpw_table.specs.Verdicts.{is_done}
use Rattle.chpw_table.specs.Wanted.{compared_keys}
use Rattle.chpw_table.specs.History.{IsLegal}
use Rattle.chpw_table.specs.Laws.{keys_made, NeverRemoved}
use Rattle.chpw_journal.specs.Runs.{Run}
use Rattle.chpw_laws.specs.OldPasswords.{IsFor, Changed, new_keys_of, depth_of, key_of, after_change, end_of, Refuses}
use Rattle.chpw_laws.specs.Restarts.{new_keys_in, NeverRemovedIn}

abbrev pub is_update : Event → Bool
is_update (Update u v) = true
is_update _ = false

abbrev pub HaveNoUpdate : List Entry → Type 0
HaveNoUpdate [] = Unit {0}
HaveNoUpdate (e ∷ es) = (is_update e.event ≡ false) × HaveNoUpdate es

-- how many changes of this name these entries accepted
abbrev pub is_change_of : Name → Event → Bool
is_change_of name (Ask o v) = is_done v && is_same_name (target_of o).name name
is_change_of name _ = false

abbrev pub changes_of : Name → List Entry → ℕ
changes_of name entries = length (filter (λ (e : Entry). is_change_of name e.event) entries)

-- such entries remove no name, and the keys that come in front are those of accepted changes
abbrev pub OnlyChangesBringKeys : Type 0
OnlyChangesBringKeys = (name : Name) (entries : List Entry) → HaveNoUpdate entries →
    NeverRemoved name entries × (new_keys_of name entries ≡ changes_of name entries)

-- the key that a change made is compared with until `depth` further changes were accepted, as it was made
abbrev pub ComparedUntilDepthOfChanges : Type 0
ComparedUntilDepthOfChanges = (h : Changed) → HaveNoUpdate h.later → changes_of h.name h.later < depth_of h →
    Contains (compared_keys (end_of h) h.name) (key_of h)

-- and its password is refused
abbrev pub RefusedUntilDepthOfChanges : Type 0
RefusedUntilDepthOfChanges = (h : Changed) → HaveNoUpdate h.later → changes_of h.name h.later < depth_of h →
    Refuses (end_of h) h.name h.password

-- from then on a new password is compared with the keys of further changes alone
abbrev pub ComparedNoLongerThanChanges : Type 0
ComparedNoLongerThanChanges = (h : Changed) → HaveNoUpdate h.later → depth_of h ≤ changes_of h.name h.later →
    compared_keys (end_of h) h.name ≡ take (depth_of h) (keys_made (after_change h) h.later h.name)

-- between two accepted changes of a name to one password at least `depth` other changes of it were accepted
abbrev pub DepthChangesBetween : Type 0
DepthChangesBetween = (h : Changed) (again : Entry) (o : Opened) → HaveNoUpdate h.later →
    IsLegal h.opening ((h.before ++ h.change ∷ h.later) ++ again ∷ []) →
    again.event ≡ Ask o Done → IsFor h.name h.password o →
    depth_of h ≤ changes_of h.name h.later

-- and no more need be: in some legal history with a `depth` of 1, one other change comes between two such changes
abbrev pub OneIsEnough : Type 0
OneIsEnough = (h : Changed) × (again : Entry) × (o : Opened)
    × IsLegal h.opening ((h.before ++ h.change ∷ h.later) ++ again ∷ [])
    × (again.event ≡ Ask o Done) × IsFor h.name h.password o
    × (depth_of h ≡ 1) × HaveNoUpdate h.later × (changes_of h.name h.later ≡ 1)

-- ---- over restarts

abbrev pub RunsHaveNoUpdate : List Run → Type 0
RunsHaveNoUpdate [] = Unit {0}
RunsHaveNoUpdate (r ∷ rs) = HaveNoUpdate r.history × RunsHaveNoUpdate rs

abbrev pub changes_in : Name → List Run → ℕ
changes_in name [] = 0
changes_in name (r ∷ rs) = changes_of name r.history + changes_in name rs

abbrev pub OnlyChangesBringKeysInRuns : Type 0
OnlyChangesBringKeysInRuns = (name : Name) (runs : List Run) → RunsHaveNoUpdate runs →
    NeverRemovedIn name runs × (new_keys_in name runs ≡ changes_in name runs)
