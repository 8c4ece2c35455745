-- What a call at a desk tells its caller.
use Rattle.std.proofs.Common.{◌≡◌, ◌≢◌, ℕ, List, [], true, false, ◌==◌, length, Result, Ok, Err, refl, sym, ◌∙◌, ap, subst}
use Rattle.std.specs.Prelude.{IfOk, OnErr}
use Rattle.chpw_rules.specs.Limits.{principal_counts}
use Rattle.chpw_table.specs.declared.times.Moment.{Moment}
use Rattle.chpw_table.specs.declared.request.Opened.{Opened}
use Rattle.chpw_table.specs.declared.verdict.Verdict.{Verdict}
use Rattle.chpw_table.specs.declared.raising.RaiseVerdict.{RaiseVerdict}
use Rattle.chpw_table.specs.declared.outcome.Refused.{Refused}
use Rattle.chpw_table.specs.declared.outcome.DecideFault.{DecideFault}
use Rattle.chpw_table.specs.declared.outcome.DecideFault.TheVariants.{Full, NeedKeys, Memory}
use Rattle.chpw_table.specs.State.{State}
use Rattle.chpw_table.specs.declared.updating.KdcUpdate.{KdcUpdate}
use Rattle.chpw_table.specs.declared.updating.UpdateVerdict.{UpdateVerdict}
use Rattle.chpw_table.specs.declared.change.AcceptedChange.{AcceptedChange}
use Rattle.chpw_table.specs.Updates.{is_taken, name_in}
use Rattle.chpw_table.specs.Updating.{adds_principal}
use Rattle.chpw_table.specs.Versions.{accepted}
use Rattle.chpw_table.specs.Agreement.{Held, Agrees}
use Rattle.chpw_table.specs.Refusals.{IsFirst}
use Rattle.chpw_table.specs.History.{missing, outcome}
use Rattle.chpw_table.specs.Standing.{refused_anyway}
use Rattle.chpw_table.proofs.AgreementLemmas.{same_missing}
use Rattle.chpw_table.proofs.StandingLemmas.{refused_anyway_law}
use Rattle.chpw_table.proofs.BoolLemmas.{and_left}
use Rattle.chpw_decider.specs.Deciding.{IsFinal}
use Rattle.chpw_decider.specs.Entered.{AsksFor}
use Rattle.chpw_table.specs.declared.history.Event.{Event}
use Rattle.chpw_table.specs.declared.history.Event.TheVariants.{Ask, Raise, Update}
use Rattle.chpw_table.specs.Completing.{completed}
use Rattle.chpw_snapshots.specs.declared.not_prepared.NotPrepared.{NotPrepared}
use Rattle.chpw_snapshots.specs.declared.not_prepared.NotPrepared.TheVariants as snapshots_fault
use Rattle.chpw_snapshots.specs.Preparing.{IsNotPrepared}
use Rattle.chpw_book.specs.declared.raising.RaiseFault.{RaiseFault}
use Rattle.chpw_book.specs.declared.updating.DeskUpdateFault.{DeskUpdateFault}
use Rattle.chpw_book.specs.declared.updating.DeskUpdateFault.TheVariants as update_fault
use Rattle.chpw_book.specs.declared.updating.DeskUpdateRefused.{DeskUpdateRefused}
use Rattle.chpw_book.specs.Passes.{PassView}
use Rattle.chpw_book.specs.Recorded.{RecordedView, IsLinearized}
use Rattle.chpw_book.specs.Calls.{Adds, Notes, AsksAfter, LacksAfter, IsKeptBack, IsUpdateFault, WhyRefused, IsRefusedAfter}
use Rattle.chpw_book.proofs.UpdateLemmas.{same_adds, same_update}

-- what happens under the lock happens at the desk
pub notes_of : (opening : State) (b later : RecordedView) (mine more : PassView) (now : Moment) (event : Event)
    → Adds opening b later mine more now event → Notes opening mine more now event
notes_of opening b later mine more now event h = record { before = b.history; entry = h.entry; happens = h.happens }

pub notes_of_ask : (opening : State) (b later : RecordedView) (mine more : PassView) (now : Moment) (o : Opened)
    (r : Result Verdict Refused) → IfOk r (λ v. Adds opening b later mine more now (Ask o v))
    → IfOk r (λ v. Notes opening mine more now (Ask o v))
notes_of_ask opening b later mine more now o (Ok v) h = notes_of opening b later mine more now (Ask o v) h
notes_of_ask opening b later mine more now o (Err e) h = tt

pub notes_of_deriving : (opening : State) (b later : RecordedView) (mine more : PassView) (now : Moment)
    (password : List ℕ) (o : Opened) (r : Result Verdict Refused)
    → IfOk r (λ v. (counts : List ℕ) × Adds opening b later mine more now (Ask (completed password counts o) v))
    → IfOk r (λ v. (counts : List ℕ) × Notes opening mine more now (Ask (completed password counts o) v))
notes_of_deriving opening b later mine more now password o (Ok v) h =
    (h.0, notes_of opening b later mine more now (Ask (completed password h.0 o) v) h.1)
notes_of_deriving opening b later mine more now password o (Err e) h = tt

pub notes_of_raise : (opening : State) (b later : RecordedView) (mine more : PassView) (now : Moment) (count : ℕ)
    (r : Result RaiseVerdict RaiseFault) → IfOk r (λ v. Adds opening b later mine more now (Raise count v))
    → IfOk r (λ v. Notes opening mine more now (Raise count v))
notes_of_raise opening b later mine more now count (Ok v) h = notes_of opening b later mine more now (Raise count v) h
notes_of_raise opening b later mine more now count (Err e) h = tt

pub notes_of_update : (opening : State) (b later : RecordedView) (mine more : PassView) (now : Moment) (u : KdcUpdate)
    (r : Result UpdateVerdict DeskUpdateRefused) → IfOk r (λ v. Adds opening b later mine more now (Update u v))
    → IfOk r (λ v. Notes opening mine more now (Update u v))
notes_of_update opening b later mine more now u (Ok v) h = notes_of opening b later mine more now (Update u v) h
notes_of_update opening b later mine more now u (Err e) h = tt

-- Full is told of a full table alone
pub full_at : (t : Held) (counts : List ℕ) (f : DecideFault) → IsFirst t counts f → f ≡ Full → t.events ≡ t.max_entries
full_at t counts Full h e = h
full_at t counts (NeedKeys given) h e = absurd (cc)
full_at t counts Memory h e = absurd (cc)

-- whatever asks for no keys
pub final_other : (f : DecideFault) → ((counts : List ℕ) → f ≢ NeedKeys counts) → IsFinal f
final_other Full other = tt
final_other (NeedKeys given) other = absurd (other given refl)
final_other Memory other = tt

asks_for : (t : Held) (counts missed : List ℕ) (f : DecideFault) → counts ≡ missed → IsFirst t counts f → AsksFor missed f
asks_for t counts missed Full e h = tt
asks_for t counts missed (NeedKeys given) e h = ((λ none. h.1 (e ∙ none)), h.2 ∙ e)
asks_for t counts missed Memory e h = tt

-- the table's own refusal is one after the history
pub asks_of_first : (opening : State) (workers : ℕ) (prior : List ℕ) (b : RecordedView) (now : Moment) (o : Opened) (f : DecideFault)
    → IsLinearized opening workers prior b → IsFirst b.table (missing b.table.state now o) f → AsksAfter opening now o f
asks_of_first opening workers prior b now o f k h = record {
  before = b.history;
  legal = k.legal;
  asks = asks_for b.table (missing b.table.state now o) (missing (outcome opening b.history) now o) f
      (same_missing b.table.state (outcome opening b.history) now o k.agrees) h;
}

kept_back : (opening t s : State) (list all : List AcceptedChange) (u : KdcUpdate) (f : NotPrepared) → Agrees t s → list ≡ all
    → IsKeptBack opening t list u f → IsKeptBack opening s all u f
kept_back opening t s list all u f a is h =
    (ap is_taken (sym (same_update t s u false a)) ∙ h.0, subst (λ (cs : List AcceptedChange). IsNotPrepared opening cs (name_in u) f) is h.1)

-- so is the table's or the list's own refusal of an update
pub refused_after : (opening : State) (workers : ℕ) (prior : List ℕ) (b : RecordedView) (list : List AcceptedChange) (u : KdcUpdate) (f : DeskUpdateFault)
    → IsLinearized opening workers prior b → list ≡ accepted opening b.history → IsUpdateFault opening list b.table u f → IsRefusedAfter opening u f
refused_after opening workers prior b list u f k is h = record { before = b.history; legal = k.legal; why = at f h }
  where
    s : State
    s = outcome opening b.history

    at : (f : DeskUpdateFault) → IsUpdateFault opening list b.table u f → WhyRefused opening b.history u f
    at update_fault.Full h = tt
    at update_fault.TooMany h =
        sym (same_adds b.table.state s u k.agrees) ∙ and_left (adds_principal b.table.state u) (length b.table.state.principals == principal_counts.high) h.1
    at update_fault.Composite h = kept_back opening b.table.state s list (accepted opening b.history) u snapshots_fault.Composite k.agrees is h.1
    at update_fault.NoRoom h = kept_back opening b.table.state s list (accepted opening b.history) u snapshots_fault.NoRoom k.agrees is h.1
    at update_fault.Memory h = tt

-- so is what it lacks
pub lacks_after : (opening : State) (workers : ℕ) (prior : List ℕ) (b : RecordedView) (now : Moment) (o : Opened)
    → IsLinearized opening workers prior b → LacksAfter opening now o (missing b.table.state now o)
lacks_after opening workers prior b now o k = record {
  before = b.history;
  legal = k.legal;
  lacks = same_missing b.table.state (outcome opening b.history) now o k.agrees;
}

-- a request that is refused anyway lacks nothing at the opening
pub lacks_none : (opening : State) (now : Moment) (o : Opened) → refused_anyway opening.fixed now o ≡ true → LacksAfter opening now o []
lacks_none opening now o h = record {
  before = [];
  legal = tt;
  lacks = sym (refused_anyway_law opening now o false h).1;
}

-- what is said of an error, where the result is one
pub err_of : {A E : Type 0} (r : Result A E) (P : Type 0) → ((x : A) → r ≡ Ok x → ⊥) → OnErr r P → P
err_of (Ok x) P other h = absurd (other x refl)
err_of (Err e) P other h = h
