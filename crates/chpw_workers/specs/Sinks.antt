-- What one sink has been told at several desks, one after the other.
use Rattle.std.specs.Prelude.{◌≡◌, ℕ, List, ◌++◌}
use Rattle.chpw_table.specs.Journal.{journal}
use Rattle.chpw_journal.specs.Runs.{Run, journals}
use Rattle.chpw_serve.specs.InTurn.{InTurn}

-- at a desk its history's journal came after what the sink had before (`ServedDesk`, `journal`)
abbrev pub AddsJournal : List ℕ → Run → List ℕ → Type 0
AddsJournal prior run told = told ≡ prior ++ journal run.opening run.history

-- at desks that had the sink one after the other, their journals came after it, joined in that order
abbrev pub JournalsAreJoined : Type 0
JournalsAreJoined = (prior told : List ℕ) (runs : List Run) → InTurn AddsJournal prior runs told → told ≡ prior ++ journals runs
