-- What a history says of its workers: the entries of each, how they are numbered, and their receipts.
use Rattle.std.specs.Prelude.{◌≡◌, ℕ, ◌+◌, ◌<◌, List, Bool, ◌==◌, All, length, map, filter, count_by, slice_index}
use Rattle.std.specs.List.{range_with_len}
use Rattle.chpw_table.specs.declared.times.Moment.{Moment}
use Rattle.chpw_table.specs.declared.history.Event.{Event}
use Rattle.chpw_table.specs.declared.history.Entry.{Entry}
use Rattle.chpw_table.specs.declared.history.Receipt.{Receipt}
use Rattle.chpw_table.specs.History.{is_accepted}

abbrev pub is_of : ℕ → Entry → Bool
is_of w e = e.worker == w

-- a worker's entries, in their order
abbrev pub entries_of : ℕ → List Entry → List Entry
entries_of w history = filter (is_of w) history

-- a worker's next entry after these
abbrev pub next_entry : List Entry → ℕ → Moment → Bool → Event → Entry
next_entry before w now io event = record { worker = w; number = length (entries_of w before) + 1; now = now; io_failed = io; event = event }

-- each worker's entries are numbered 1, 2, .. in their order
abbrev pub IsNumbered : List Entry → Type 0
IsNumbered history =
    (w : ℕ) → map (λ (e : Entry). e.number) (entries_of w history) ≡ range_with_len 1 (length (entries_of w history))

-- only these workers have entries
abbrev pub AreOfWorkers : ℕ → List Entry → Type 0
AreOfWorkers workers history = All (λ (e : Entry). e.worker < workers) history

-- the counts are the numbers of entries, worker by worker, and no other worker has any
pub record IsCounted (counts : List ℕ) (history : List Entry) : Type 0 where
  pub counts_are : (w : ℕ) → w < length counts → slice_index counts w ≡ length (entries_of w history)
  pub workers : AreOfWorkers (length counts) history

-- how many were accepted: changes of passwords, raises of the count, and updates
abbrev pub changes_of : List Entry → ℕ
changes_of history = count_by (λ (e : Entry). is_accepted e.event) history

-- the receipt of an entry that comes after these
abbrev pub receipt_of : List Entry → Entry → Receipt
receipt_of before e = record { worker = e.worker; number = e.number; position = length before; basis = changes_of before; entry = e }
