-- What a service's last line counts, and what follows where it isn't printed.
use Rattle.std.specs.Prelude.{◌≡◌, ℕ, List, ◌++◌, Bool, false, codes, length, count_by, if◌then◌else◌}
use Rattle.std.specs.Fmt.{decimal}
use Rattle.chpw_table.specs.State.{State}
use Rattle.chpw_table.specs.Verdicts.{is_done}
use Rattle.chpw_table.specs.declared.history.Entry.{Entry}
use Rattle.chpw_table.specs.declared.history.Event.{Event}
use Rattle.chpw_table.specs.declared.history.Event.TheVariants.{Ask, Raise, Update}
use Rattle.chpw_book.specs.Passes.{PassView}
use Rattle.chpw_book.specs.Recorded.{RecordedView, IsLinearized}
use Rattle.chpw_book.specs.Closing.{IsRefusal, is_full}
use Rattle.chpw_book.specs.declared.closing.CloseFault.{CloseFault}
use Rattle.chpw_desks.specs.declared.closing.Tally.{Tally}
use Rattle.chpw_desks.specs.declared.tallies.AfterPrint.{AfterPrint}
use Rattle.chpw_desks.specs.declared.tallies.AfterPrint.TheVariants.{GoOn, ReportLoss, Fail}

-- the line about a history
abbrev pub tally_line : Tally → List ℕ
tally_line t = codes "entries " ++ decimal t.entries ++ codes " changes " ++ decimal t.changes

-- a line that isn't printed is a fault after the last history; after another one it is lost, which is reported once
abbrev pub after_print : Bool → Bool → Bool → AfterPrint
after_print is_printed is_last is_reported =
    if is_printed then GoOn
    else if is_last then Fail
    else if is_reported then GoOn
    else ReportLoss

-- a raise of the iteration count and an update from the KDC are entries, and no changes
abbrev pub changes_a_password : Event → Bool
changes_a_password (Ask opened verdict) = is_done verdict
changes_a_password (Raise count verdict) = false
changes_a_password (Update update verdict) = false

abbrev pub password_changes : List Entry → ℕ
password_changes history = count_by (λ (e : Entry). changes_a_password e.event) history

-- how many entries a history has, and how many of them are changes of passwords
pub record IsTally (history : List Entry) (tally : Tally) : Type 0 where
  pub entries : tally.entries ≡ length history
  pub changes : tally.changes ≡ password_changes history

-- a pass is missing, or has other receipts than its worker's calls in the history stored
pub record IsMismatch (opening : State) (workers : ℕ) (passes : List PassView) : Type 0 where
  pub recorded : RecordedView
  pub prior : List ℕ
  pub linearized : IsLinearized opening workers prior recorded
  pub fault : CloseFault
  pub refusal : IsRefusal recorded.history (is_full recorded.table) workers passes fault
