-- What opening a journal's file gives: the table with the records of all that the file gave, and where a torn tail after them
-- was cut off; for a new file, the table unchanged. Of a file of the system no contract says which bytes it gives.
use Rattle.std.specs.Prelude.{◌≡◌, ℕ, List, MatchBool, true, Option, Some, None, if◌then◌else◌}
use Rattle.chpw_table.specs.Agreement.{Held}
use Rattle.chpw_journal.specs.declared.fault.RestoreFault.{RestoreFault}
use Rattle.chpw_journal.specs.declared.restoring.Restored.{Restored}
use Rattle.chpw_journal.specs.declared.journal_file.Journal.{Journal}
use Rattle.chpw_journal.specs.declared.journal_file.JournalFile.{JournalFile}
use Rattle.chpw_journal.specs.declared.journal_file.OpenFault.{OpenFault}
use Rattle.chpw_journal.specs.declared.journal_file.OpenFault.TheVariants.{CannotRead, CannotWrite, Restore}
use Rattle.chpw_journal.specs.Restoring.{IsRestored, IsRefused}
use Rattle.chpw_journal.specs.Headings.{IsWholeRestored, IsWholeRefused}

-- the fault of a file that isn't read yet
abbrev pub IsUnopened : OpenFault → Type 0
IsUnopened CannotRead = Unit {0}
IsUnopened CannotWrite = Unit {0}
IsUnopened (Restore fault) = ⊥

-- where a torn tail is cut off
abbrev pub cut_of : Restored → Option ℕ
cut_of r = if r.torn then Some r.kept else None

-- restored from all that was left of a file, after its heading
abbrev pub IsReadFrom : Held → Option (List ℕ) → Restored → Type 0
IsReadFrom before old r = (left : Option (List ℕ)) × IsRestored before old left r

-- what a journal's file gives from its beginning on, if that is known
abbrev pub given_by : {F : Type 0} → (F → Option (List ℕ)) → JournalFile F → Option (List ℕ)
given_by remaining f = remaining f.file

-- a file that was there: its records, and none besides, are replayed in the table, and a torn tail is cut off
pub record IsReopened {F : Type 0} (before : Held) (given : Option (List ℕ)) (j : Journal F) : Type 0 where
  pub all : Restored
  pub read : IsWholeRestored before given all
  pub table : j.table ≡ all.table
  pub cut : j.cut_at ≡ cut_of all

-- a new file: the table is as it was
abbrev pub IsBegun : {F : Type 0} → Held → Journal F → Type 0
IsBegun before j = (j.table ≡ before) × (j.cut_at ≡ None)

abbrev pub IsOpened : {F : Type 0} → Held → Option (List ℕ) → Journal F → Type 0
IsOpened before given j = MatchBool j.found (IsReopened before given j) (IsBegun before j)

-- refused for what was read of the rest of a file, after its heading
abbrev pub IsRefusedFrom : Held → Option (List ℕ) → RestoreFault → Type 0
IsRefusedFrom before old fault = (left : Option (List ℕ)) × IsRefused before old left fault

-- the fault of an existing file: what is wrong with what was read of it, or a torn record followed the records that
-- were read
abbrev pub IsUnrestored : Held → Option (List ℕ) → OpenFault → Type 0
IsUnrestored before given CannotRead = ⊥
IsUnrestored before given CannotWrite = (r : Restored) × IsWholeRestored before given r × (r.torn ≡ true)
IsUnrestored before given (Restore fault) = IsWholeRefused before given fault
