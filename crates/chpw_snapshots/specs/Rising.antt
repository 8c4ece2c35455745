-- Versions rise along a list of changes, until their name is removed, and so does the count of new keys.
use Rattle.std.specs.Prelude.{◌≡◌, ◌+◌, ◌<◌, ◌≤◌, List, [], ◌∷◌, ◌++◌, Bool, false, Some, IfSome}
use Rattle.std.specs.List.{list_any}
use Rattle.chpw_rules.specs.declared.name.Name.{Name}
use Rattle.chpw_rules.specs.Names.{is_same_name}
use Rattle.chpw_table.specs.declared.change.AcceptedChange.{AcceptedChange}
use Rattle.chpw_table.specs.declared.change.AcceptedChange.TheVariants.{Key, Count, Adopted, Lifted, Removed}
use Rattle.chpw_table.specs.State.{State}
use Rattle.chpw_table.specs.Versions.{Shown, shown, shown_count}

-- A change of a key may follow those: its name is shown, its version the next, its count the one that they show. A
-- change of the count may: it is higher. A key may be adopted: its version is higher than the one shown of its name, if
-- one is, and its count at least 1. A version may be lifted: its name is shown, and it is higher. A name may be removed that
-- is shown.
abbrev pub IsNextVersion : State → List AcceptedChange → AcceptedChange → Type 0
IsNextVersion opening before (Key c) =
    (row : Shown) × (shown opening before c.name ≡ Some row)
    × (c.kvno ≡ row.kvno + 1) × (c.count ≡ shown_count opening before)
IsNextVersion opening before (Count n) = shown_count opening before < n
IsNextVersion opening before (Adopted c) =
    IfSome (shown opening before c.name) (λ row. row.kvno < c.kvno) × (1 ≤ c.count)
IsNextVersion opening before (Lifted name kvno) =
    (row : Shown) × (shown opening before name ≡ Some row) × (row.kvno < kvno)
IsNextVersion opening before (Removed name) = (row : Shown) × (shown opening before name ≡ Some row)

-- after these changes those may come, one after the other
abbrev pub AreNextVersions : State → List AcceptedChange → List AcceptedChange → Type 0
AreNextVersions opening before [] = Unit {0}
AreNextVersions opening before (c ∷ cs) = IsNextVersion opening before c × AreNextVersions opening (before ++ c ∷ []) cs

-- the change removes this name
abbrev pub removes : Name → AcceptedChange → Bool
removes name (Removed removed) = is_same_name removed name
removes name _ = false

-- one of these changes removes the name
abbrev pub is_removed : Name → List AcceptedChange → Bool
is_removed name changes = list_any (removes name) changes
