-- Versions rise along the list of accepted changes, until their name is removed, and so does the count of new keys.
use Rattle.std.specs.Prelude.{◌≡◌, ◌≤◌, List, [], ◌++◌, false, Some}
use Rattle.chpw_rules.specs.declared.name.Name.{Name}
use Rattle.chpw_table.specs.declared.history.Entry.{Entry}
use Rattle.chpw_table.specs.declared.change.AcceptedChange.{AcceptedChange}
use Rattle.chpw_table.specs.State.{State}
use Rattle.chpw_table.specs.History.{IsLegal}
use Rattle.chpw_table.specs.Versions.{Shown, accepted, shown, shown_count}
use Rattle.chpw_journal.specs.Runs.{AreWhole}
use Rattle.chpw_snapshots.specs.Rising.{AreNextVersions, is_removed}

-- each accepted change of a key raises its name's version by one, each of the count raises the count, and what the KDC says
-- raises a version or removes a name
abbrev pub VersionsRise : Type 0
VersionsRise = (opening : State) (history : List Entry) → IsLegal opening history → AreWhole opening history →
    AreNextVersions opening [] (accepted opening history)

-- if a list goes on so, what it shows of a name is no older, unless the name is removed
abbrev pub LaterListsShowNoOlder : Type 0
LaterListsShowNoOlder = (opening : State) (before more : List AcceptedChange) →
    (name : Name) (row : Shown) → AreNextVersions opening before more → is_removed name more ≡ false →
    shown opening before name ≡ Some row →
    (later : Shown) × (shown opening (before ++ more) name ≡ Some later) × (row.kvno ≤ later.kvno)

-- and its count of new keys is no lower
abbrev pub LaterListsShowNoLower : Type 0
LaterListsShowNoLower = (opening : State) (before more : List AcceptedChange) → AreNextVersions opening before more →
    shown_count opening before ≤ shown_count opening (before ++ more)
