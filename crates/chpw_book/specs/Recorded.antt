-- What is under the lock: its invariant, and what an event adds.
use Rattle.std.specs.Prelude.{◌≡◌, ℕ, ◌+◌, ◌≤◌, ◌<◌, List, [], ◌∷◌, ◌++◌, length, Option, IfSome, replicate, slice_set}
use Rattle.chpw_table.specs.declared.times.Moment.{Moment}
use Rattle.chpw_table.specs.declared.history.Event.{Event}
use Rattle.chpw_table.specs.declared.history.Entry.{Entry}
use Rattle.chpw_table.specs.State.{State}
use Rattle.chpw_table.specs.History.{IsLegal, outcome}
use Rattle.chpw_table.specs.Journal.{journal}
use Rattle.chpw_table.specs.Agreement.{Held, Agrees}
use Rattle.chpw_journal.specs.Runs.{AreWhole}
use Rattle.chpw_book.specs.Receipts.{IsNumbered, IsCounted, changes_of, next_entry, receipt_of}
use Rattle.chpw_book.specs.Passes.{PassView}

-- the table, the history, each worker's count, the accepted changes, the ledger's total, and the sink's known bytes
pub record RecordedView : Type 0 where
  pub table : Held
  pub history : List Entry
  pub counts : List ℕ
  pub changes : ℕ
  pub total : ℕ
  pub told : Option (List ℕ)

-- no entry yet, for this many workers
abbrev pub new_recorded : Held → ℕ → Option (List ℕ) → RecordedView
new_recorded t workers told = record { table = t; history = []; counts = replicate workers 0; changes = 0; total = 0; told = told }

-- What the workers did at the same time equals what one thread does with the history, entry by entry from
-- the opening: it gives each verdict stored and leads to the table. What each accepted entry brings in is
-- whole; each worker's calls are in it once each, numbered; what the sink tells is what it told before and then its journal.
pub record IsLinearized (opening : State) (workers : ℕ) (prior : List ℕ) (b : RecordedView) : Type 0 where
  pub legal : IsLegal opening b.history
  pub agrees : Agrees b.table.state (outcome opening b.history)
  pub whole : AreWhole opening b.history
  pub numbered : IsNumbered b.history
  pub counted : IsCounted b.counts b.history
  pub all : length b.counts ≡ workers
  pub changes : b.changes ≡ changes_of b.history
  pub total : b.total ≡ length b.history
  pub journal : IfSome b.told (λ bytes. bytes ≡ prior ++ journal opening b.history)
  pub room : length b.history ≤ b.table.events

-- This entry after those: the next of the pass's worker, with this moment and event. The pass has its
-- receipt, and one more in its share of the ledger.
pub record Enters (before : List Entry) (entry : Entry) (mine more : PassView) (now : Moment) (event : Event) : Type 0 where
  pub entry_is : entry ≡ next_entry before mine.worker now entry.io_failed event
  pub receipts : more.receipts ≡ mine.receipts ++ receipt_of before entry ∷ []
  pub share : more.share ≡ mine.share + 1
  pub same : (more.worker ≡ mine.worker) × (more.was_full ≡ mine.was_full)

-- the table had room, and the history has this entry of this worker more
pub record Grows (before later : RecordedView) (worker : ℕ) (entry : Entry) : Type 0 where
  pub history : later.history ≡ before.history ++ entry ∷ []
  pub counts : later.counts ≡ slice_set before.counts worker entry.number
  pub room : before.table.events < before.table.max_entries
  pub events : later.table.events ≡ before.table.events + 1
  pub limit : later.table.max_entries ≡ before.table.max_entries
