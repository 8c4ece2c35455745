-- The list that the holders of one pen after another have written into the log.
use Rattle.std.specs.Prelude.{◌≡◌, ℕ, ◌==◌, List, [], ◌∷◌, if◌then◌else◌, false, pos}
use Rattle.chpw_table.specs.State.{State}
use Rattle.chpw_table.specs.Agreement.{Held}
use Rattle.chpw_table.specs.declared.change.AcceptedChange.{AcceptedChange}
use Rattle.chpw_table.specs.declared.change.AcceptedChange.TheVariants.{Count}
use Rattle.chpw_changelog.specs.declared.entry.LogEntry.{LogEntry}

-- the changes that this pen, and the pens that took over from it, have written
abbrev pub written_by : ℕ → List LogEntry → List AcceptedChange
written_by pen [] = []
written_by pen (e ∷ es) = if e.by == pen then e.change ∷ written_by e.next es else written_by pen es

-- the pen that goes on after them
abbrev pub pen_after : ℕ → List LogEntry → ℕ
pen_after pen [] = pen
pen_after pen (e ∷ es) = if e.by == pen then pen_after e.next es else pen_after pen es

-- no entry is written with this pen
abbrev pub IsUnspent : ℕ → List LogEntry → Type 0
IsUnspent pen [] = Unit {0}
IsUnspent pen (e ∷ es) = ((e.by == pen) ≡ false) × IsUnspent pen es

abbrev pub no_state : State
no_state = record {
  fixed = record {
    realm = [];
    policy = record {
      min_length = 0;
      min_classes = 0;
      depth = 0;
      iterations = 0;
      set_needs_initial = false;
    };
    rules = record { list = [] };
    quiet_until = pos 0;
  };
  principals = [];
  used = [];
  clock = pos 0;
  broken = false;
  count = 0;
}

abbrev pub no_entry : LogEntry
no_entry = record { opening = record { state = no_state; events = 0; seen = 0; max_entries = 0 }; change = Count 0; by = 0; next = 0 }

abbrev pub newest_or : LogEntry → List LogEntry → LogEntry
newest_or d [] = d
newest_or d (e ∷ es) = newest_or e es

-- A list is named by the log as it was when the list was opened: its newest entry has the list's first
-- pen, and the table that it opens with.
abbrev pub first_pen : List LogEntry → ℕ
first_pen root = (newest_or no_entry root).next

abbrev pub opening_table : List LogEntry → Held
opening_table root = (newest_or no_entry root).opening

abbrev pub opening_state : List LogEntry → State
opening_state root = (opening_table root).state

-- the accepted changes of that list in a log
abbrev pub changes_in : List LogEntry → List LogEntry → List AcceptedChange
changes_in root log = written_by (first_pen root) log
