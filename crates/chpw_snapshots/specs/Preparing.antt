-- Which updates can be prepared: the names that have a row, and why an update is refused.
use Rattle.std.specs.Prelude.{◌≡◌, ◌≤◌, ◌<◌, List, [], Bool, true, false, ◌||◌, if◌then◌else◌, fold, length}
use Rattle.std.specs.List.{list_any}
use Rattle.std.specs.BTreeSet.{insert_key}
use Rattle.chpw_rules.specs.declared.name.Name.{Name}
use Rattle.chpw_rules.specs.Names.{is_same_name, name_cmp}
use Rattle.chpw_table.specs.declared.change.AcceptedChange.{AcceptedChange}
use Rattle.chpw_table.specs.declared.change.AcceptedChange.TheVariants.{Adopted}
use Rattle.chpw_table.specs.State.{State}
use Rattle.chpw_changelog.specs.Changes.{is_short}
use Rattle.chpw_snapshots.specs.declared.not_prepared.NotPrepared.{NotPrepared}
use Rattle.chpw_snapshots.specs.declared.not_prepared.NotPrepared.TheVariants.{Composite, NoRoom, Memory}
use Rattle.chpw_snapshots.specs.Rows.{names_of, added_limit}

-- the name is one of these
abbrev pub has_name : List Name → Name → Bool
has_name names name = list_any (λ (other : Name). is_same_name other name) names

-- one more name, in their order, unless it is the opening's or among those that were added before
abbrev pub with_name : State → List Name → Name → List Name
with_name opening names name = if has_name (names_of opening) name || has_name names name then names else insert_key name_cmp names name

abbrev pub with_adopted_name : State → List Name → AcceptedChange → List Name
with_adopted_name opening names (Adopted c) = with_name opening names c.name
with_adopted_name opening names _ = names

-- the names that these changes adopted and that aren't the opening's, in the order of names, each once; one that was removed
-- since stays among them
abbrev pub added_names : State → List AcceptedChange → List Name
added_names opening changes = fold (with_adopted_name opening) [] changes

-- there is a row for this name: the opening has it, or it was adopted since
abbrev pub has_row : State → List AcceptedChange → Name → Bool
has_row opening changes name = has_name (names_of opening) name || has_name (added_names opening changes) name

-- there may be one: the name has one component of at most 128 bytes, and fewer than 10,000 were added
abbrev pub MayHaveRow : State → List AcceptedChange → Name → Type 0
MayHaveRow opening changes name = (is_short name ≡ true) × (length (added_names opening changes) < added_limit)

-- An update of this name is refused after these changes: the name would need a row, and has other than one component of at most
-- 128 bytes; or there are 10,000 such rows; or a growth was refused, where none of that keeps it back.
abbrev pub IsNotPrepared : State → List AcceptedChange → Name → NotPrepared → Type 0
IsNotPrepared opening changes name Composite = (has_row opening changes name ≡ false) × (is_short name ≡ false)
IsNotPrepared opening changes name NoRoom =
    (has_row opening changes name ≡ false) × (is_short name ≡ true)
    × (added_limit ≤ length (added_names opening changes))
IsNotPrepared opening changes name Memory = has_row opening changes name ≡ false → MayHaveRow opening changes name
