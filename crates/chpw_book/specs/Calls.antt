-- What one call does, under the lock and at a desk. At a desk other workers may have called before, so the
-- history that the entry comes after isn't known there.
use Rattle.std.specs.Prelude.{◌≡◌, ◌<◌, ℕ, List, [], ◌∷◌, ◌++◌, true, false}
use Rattle.chpw_table.specs.declared.times.Moment.{Moment}
use Rattle.chpw_table.specs.declared.request.Opened.{Opened}
use Rattle.chpw_table.specs.declared.history.Event.{Event}
use Rattle.chpw_table.specs.declared.history.Entry.{Entry}
use Rattle.chpw_table.specs.declared.outcome.DecideFault.{DecideFault}
use Rattle.chpw_table.specs.State.{State}
use Rattle.chpw_table.specs.declared.updating.KdcUpdate.{KdcUpdate}
use Rattle.chpw_table.specs.declared.updating.UpdateFault.{UpdateFault}
use Rattle.chpw_table.specs.declared.updating.UpdateFault.TheVariants as table_fault
use Rattle.chpw_table.specs.Agreement.{Held}
use Rattle.chpw_table.specs.Updates.{is_taken, name_in, update_verdict}
use Rattle.chpw_table.specs.declared.change.AcceptedChange.{AcceptedChange}
use Rattle.chpw_table.specs.Versions.{accepted}
use Rattle.chpw_table.specs.Updating.{adds_principal, has_too_many}
use Rattle.chpw_table.specs.History.{IsLegal, is_accepted, outcome, missing}
use Rattle.chpw_decider.specs.Entered.{AsksFor}
use Rattle.chpw_snapshots.specs.declared.not_prepared.NotPrepared.{NotPrepared}
use Rattle.chpw_snapshots.specs.declared.not_prepared.NotPrepared.TheVariants as snapshots_fault
use Rattle.chpw_snapshots.specs.Preparing.{IsNotPrepared}
use Rattle.chpw_book.specs.declared.raising.RaiseFault.{RaiseFault}
use Rattle.chpw_book.specs.declared.raising.RaiseFault.TheVariants.{Full, Memory}
use Rattle.chpw_book.specs.declared.updating.DeskUpdateFault.{DeskUpdateFault}
use Rattle.chpw_book.specs.declared.updating.DeskUpdateFault.TheVariants as update_fault
use Rattle.chpw_book.specs.Recorded.{RecordedView, Enters, Grows}
use Rattle.chpw_book.specs.Passes.{PassView}
use Rattle.chpw_book.specs.Publishing.{Tells}

-- One event of a worker, which every layer's contract cites: this entry, after a legal history of these,
-- whose verdict is the machine's there; its receipt in the pass; and, where it was accepted, what the pass is
-- told of the accepted changes.
pub record Happens (opening : State) (before : List Entry) (entry : Entry) (mine more : PassView) (now : Moment) (event : Event) : Type 0 where
  pub enters : Enters before entry mine more now event
  pub legal : IsLegal opening (before ++ entry ∷ [])
  pub tells : Tells opening before (before ++ entry ∷ []) mine.place more.place (is_accepted event)

-- under the lock: after the history there, which has the entry then
pub record Adds (opening : State) (before later : RecordedView) (mine more : PassView) (now : Moment) (event : Event) : Type 0 where
  pub entry : Entry
  pub happens : Happens opening before.history entry mine more now event
  pub grows : Grows before later mine.worker entry

-- at the desk: after some history
pub record Notes (opening : State) (mine more : PassView) (now : Moment) (event : Event) : Type 0 where
  pub before : List Entry
  pub entry : Entry
  pub happens : Happens opening before entry mine more now event

-- keys are asked for only if, after some legal history, the decision of this request lacks exactly these
pub record AsksAfter (opening : State) (now : Moment) (o : Opened) (fault : DecideFault) : Type 0 where
  pub before : List Entry
  pub legal : IsLegal opening before
  pub asks : AsksFor (missing (outcome opening before) now o) fault

-- after some legal history the decision of this request lacks exactly these keys
pub record LacksAfter (opening : State) (now : Moment) (o : Opened) (counts : List ℕ) : Type 0 where
  pub before : List Entry
  pub legal : IsLegal opening before
  pub lacks : counts ≡ missing (outcome opening before) now o

-- a raise is refused for a full table, or, if it has room, for want of memory
abbrev pub IsFirstFault : Held → RaiseFault → Type 0
IsFirstFault t Full = t.events ≡ t.max_entries
IsFirstFault t Memory = t.events < t.max_entries

-- a table's refusal of an update, as the desk names it
abbrev pub table_refusal : UpdateFault → DeskUpdateFault
table_refusal table_fault.Full = update_fault.Full
table_refusal table_fault.TooMany = update_fault.TooMany
table_refusal table_fault.Memory = update_fault.Memory

-- that of the snapshots
abbrev pub snapshots_refusal : NotPrepared → DeskUpdateFault
snapshots_refusal snapshots_fault.Composite = update_fault.Composite
snapshots_refusal snapshots_fault.NoRoom = update_fault.NoRoom
snapshots_refusal snapshots_fault.Memory = update_fault.Memory

-- the table has room for the update, and for the principal that it may add
abbrev pub HasRoomFor : Held → KdcUpdate → Type 0
HasRoomFor t u = (t.events < t.max_entries) × (has_too_many t u ≡ false)

-- it is taken unless its append fails, but the snapshots refuse it after these changes
abbrev pub IsKeptBack : State → State → List AcceptedChange → KdcUpdate → NotPrepared → Type 0
IsKeptBack opening s list u fault = (is_taken (update_verdict s u false) ≡ true) × IsNotPrepared opening list (name_in u) fault

-- An update is refused for a full table; or, if it has room, because it would add a principal to as many as there may be;
-- or, where it would be taken, because lookups have no row for its name and get none; or for want of memory.
abbrev pub IsUpdateFault : State → List AcceptedChange → Held → KdcUpdate → DeskUpdateFault → Type 0
IsUpdateFault opening list t u update_fault.Full = t.events ≡ t.max_entries
IsUpdateFault opening list t u update_fault.TooMany = (t.events < t.max_entries) × (has_too_many t u ≡ true)
IsUpdateFault opening list t u update_fault.Composite = HasRoomFor t u × IsKeptBack opening t.state list u snapshots_fault.Composite
IsUpdateFault opening list t u update_fault.NoRoom = HasRoomFor t u × IsKeptBack opening t.state list u snapshots_fault.NoRoom
IsUpdateFault opening list t u update_fault.Memory = HasRoomFor t u

-- why, after such a history, as far as that says it
abbrev pub WhyRefused : State → List Entry → KdcUpdate → DeskUpdateFault → Type 0
WhyRefused opening before u update_fault.Full = Unit {0}
WhyRefused opening before u update_fault.TooMany = adds_principal (outcome opening before) u ≡ true
WhyRefused opening before u update_fault.Composite =
    IsKeptBack opening (outcome opening before) (accepted opening before) u snapshots_fault.Composite
WhyRefused opening before u update_fault.NoRoom =
    IsKeptBack opening (outcome opening before) (accepted opening before) u snapshots_fault.NoRoom
WhyRefused opening before u update_fault.Memory = Unit {0}

-- at a desk: after some legal history
pub record IsRefusedAfter (opening : State) (u : KdcUpdate) (fault : DeskUpdateFault) : Type 0 where
  pub before : List Entry
  pub legal : IsLegal opening before
  pub why : WhyRefused opening before u fault
