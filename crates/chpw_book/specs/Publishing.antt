-- The list of accepted changes that lookups see, beside the history.
use Rattle.std.specs.Prelude.{◌≡◌, ◌⊎◌, ℕ, ◌<◌, ◌^◌, List, [], ◌∷◌, ◌++◌, Bool, true, false, if◌then◌else◌, Option, Some, None, length, map}
use mathlib.Core.List.{IsPrefix}
use Rattle.chpw_rules.specs.declared.name.Name.{Name}
use Rattle.chpw_table.specs.declared.times.Moment.{Moment}
use Rattle.chpw_table.specs.declared.history.Event.{Event}
use Rattle.chpw_table.specs.declared.history.Entry.{Entry}
use Rattle.chpw_record.specs.declared.key.KeyRow.{KeyRow}
use Rattle.chpw_table.specs.declared.table.Principal.{Principal}
use Rattle.chpw_table.specs.declared.table.Lookup.{Lookup}
use Rattle.chpw_table.specs.State.{State, keys_held, kept_count, new_count}
use Rattle.chpw_table.specs.Agreement.{Held}
use Rattle.chpw_table.specs.Decision.{newest_kvno}
use Rattle.chpw_table.specs.History.{is_accepted}
use Rattle.chpw_table.specs.declared.change.AcceptedChange.{AcceptedChange}
use Rattle.chpw_table.specs.Versions.{change_by, accepted}
use Rattle.chpw_changelog.specs.declared.change.NumberedChange.{NumberedChange}
use Rattle.chpw_changelog.specs.declared.change.NumberedChange.TheVariants.{Keys, Count}
use Rattle.chpw_changelog.specs.declared.change.KeysChange.{KeysChange}
use Rattle.chpw_changelog.specs.declared.change.KeysChange.TheVariants.{Key, Adopted, Lifted, Removed}
use Rattle.chpw_changelog.specs.Changes.{EndsWith}
use Rattle.chpw_snapshots.specs.declared.row.Row.{Row}
use Rattle.chpw_snapshots.specs.Known.{Known, PublishedList}
use Rattle.chpw_snapshots.specs.Rows.{Rowed}
use Rattle.chpw_snapshots.specs.Looking.{LooksUp}
use Rattle.chpw_book.specs.Passes.{PassView}
use Rattle.chpw_book.specs.Recorded.{RecordedView, IsLinearized, Enters, Grows, new_recorded}

-- what is under the lock: the table with its history, and the published list
pub record BookView : Type 0 where
  pub kept : RecordedView
  pub list : List AcceptedChange

-- over this table, with no entry yet, for this many workers
abbrev pub new_book : Held → ℕ → Option (List ℕ) → BookView
new_book t workers told = record { kept = new_recorded t workers told; list = [] }

-- the published list is the history's accepted changes, and, unless the journal is broken, none waits
pub record IsPublished (opening : State) (history : List Entry) (broken : Bool) (s : PublishedList) : Type 0 where
  pub list : s.list ≡ accepted opening history
  pub free : broken ≡ false → s.waiting ≡ None

-- the change is prepared, if one is made
abbrev pub with_waiting : Bool → AcceptedChange → PublishedList → PublishedList
with_waiting made c s = if made then record s { waiting = Some c } else s

-- an event leaves the published list, and its change is prepared if it was accepted; otherwise none is, unless the
-- journal broke
pub record LeavesPending (before : State) (broken : Bool) (event : Event) (s t : PublishedList) : Type 0 where
  pub list : t.list ≡ s.list
  pub waits : is_accepted event ≡ true → t.waiting ≡ Some (change_by before event)
  pub free : is_accepted event ≡ false → broken ≡ false → t.waiting ≡ None

-- For the proofs: an event's entry is recorded, and its change waits to be published.
pub record IsRecorded (opening : State) (workers : ℕ) (prior : List ℕ)
    (before later : RecordedView) (mine more : PassView) (s t : PublishedList) (now : Moment) (event : Event) : Type 0 where
  pub entry : Entry
  pub enters : Enters before.history entry mine more now event
  pub grows : Grows before later mine.worker entry
  pub place : more.place ≡ mine.place
  pub saw : IsPrefix mine.place.seen s.list
  pub pending : LeavesPending before.table.state later.table.state.broken event s t
  pub linearized : IsLinearized opening workers prior before × IsLinearized opening workers prior later
  pub few : length later.history < 2 ^ 31

-- the prepared change has joined the list
abbrev pub joined : Option AcceptedChange → List AcceptedChange → List AcceptedChange
joined None list = list
joined (Some c) list = list ++ c ∷ []

abbrev pub published : Bool → PublishedList → PublishedList
published done s = if done then record { list = joined s.waiting s.list; waiting = None } else s

-- the pass learns this list after a change of its own
abbrev pub told_list : Bool → List AcceptedChange → Known → Known
told_list done list k = if done then record k { told = list; own = Some list } else k

-- A call whose event was accepted or not, with this history before it and that one after: what the pass had learnt
-- begins the accepted changes, and so does what its lookups showed; if the event was accepted, the pass learns them
-- all, its own the last, which are more than it knew, and otherwise nothing.
pub record Tells (opening : State) (before later : List Entry) (mine more : Known) (done : Bool) : Type 0 where
  pub begins : IsPrefix mine.told (accepted opening before)
  pub saw : IsPrefix mine.seen (accepted opening before)
  pub tells : more ≡ told_list done (accepted opening later) mine
  pub grows : done ≡ true → (length mine.told < length more.told) × (length mine.seen < length more.told)

-- a lookup shows nothing and leaves what is known, or it looks up
abbrev pub MayShow : Held → Known → Known → Name → Option Lookup → Type 0
MayShow opening mine more name found = ((found ≡ None) × (more ≡ mine)) ⊎ LooksUp opening mine more name found

-- the version that a name's newest keys have after a change; none once it is removed
abbrev pub kvno_after : KeysChange → Option ℕ
kvno_after (Key kvno count) = Some kvno
kvno_after (Adopted kvno count) = Some kvno
kvno_after (Lifted kvno) = Some kvno
kvno_after Removed = None

-- the version in a change; none in one of the count of new keys
abbrev pub kvno_in : NumberedChange → Option ℕ
kvno_in (Keys whose change) = kvno_after change
kvno_in (Count count) = None

-- nothing was learnt and there is no version; or this is the version in the last change of what was learnt, unless that
-- is empty
abbrev pub IsKvnoTold : State → Option (List AcceptedChange) → Option ℕ → Type 0
IsKvnoTold opening own kvno =
    ((own ≡ None) × (kvno ≡ None))
    ⊎ ((front : List AcceptedChange) × (own ≡ Some front) × (change : NumberedChange) × (kvno ≡ kvno_in change) × EndsWith opening front change)

-- the row of a name of which this is shown
abbrev pub row_showing : Name → Lookup → Row
row_showing name l = record { name = name; shown = Some (record { kvno = l.kvno; counts = l.held }) }

-- the row of a name whose keys are these
abbrev pub row_with : Name → Option (List KeyRow) → Row
row_with name None = record { name = name; shown = None }
row_with name (Some keys) = record {
  name = name;
  shown = Some (record { kvno = newest_kvno keys; counts = map (λ (k : KeyRow). k.count) keys });
}

abbrev pub row_under : State → Name → Row
row_under s name = row_with name (keys_held s name)

-- the rows that a table opens with
abbrev pub table_rows : Held → Rowed
table_rows t = record {
  rows = map (λ (p : Principal). row_under t.state p.name) t.state.principals;
  added = [];
  kept = kept_count t.state;
  policy = new_count t.state;
  seen = t.seen;
}
