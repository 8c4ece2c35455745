-- The table that a service starts with: its configuration's, with the records of its journal. It is quiet from its
-- start on, a moment that its clock gave.
use Rattle.std.specs.Prelude.{◌≡◌, ◌++◌, ◌+ℤ◌, ◌-ℤ◌, pos, ℤ, ℕ, List, Option, Bool, true, false, if◌then◌else◌}
use Rattle.std.specs.Io.KnownBytes.{Consumes, IsAtEnd}
use Rattle.chpw_rules.specs.declared.config.Config.{Config}
use Rattle.chpw_table.specs.Agreement.{Agrees}
use Rattle.chpw_table.specs.State.{State, opening_of}
use Rattle.chpw_table.specs.declared.times.Moment.{Moment}
use Rattle.chpw_journal.specs.Headings.{IsBehind}
use Rattle.chpw_journal.specs.JournalText.{restored, whole, AreNext, IsReading}
use Rattle.chpw_record.specs.Records.{records_text}
use Rattle.chpw_record.specs.declared.record.Record.{Record}
use Rattle.chpw_journal.specs.declared.journal_file.Journal.{Journal}

-- for 300 seconds if there was a journal, and otherwise not at all: a moment is refused up to this second
abbrev pub quiet_until : ℤ → Bool → ℤ
quiet_until start found = if found then start +ℤ pos 300 else start -ℤ pos 301

abbrev pub opening_at : Config → ℤ → Bool → State
opening_at config start found = opening_of config (quiet_until start found)

-- a text that a file gave from its beginning to its end, as far as it tells
abbrev pub IsAllOf : Option (List ℕ) → List ℕ → Type 0
IsAllOf given text = (left : Option (List ℕ)) × Consumes given left text × IsAtEnd left

-- the records are those of all that the journal's file gave behind the record of the realm, if it begins with that, but for a
-- torn one at its end
pub record AreAllRecords (given : Option (List ℕ)) (opening : State) (records : List Record) : Type 0 where
  pub is_named : Bool
  pub behind : Option (List ℕ)
  pub headed : IsBehind opening.fixed.realm is_named given behind
  pub torn : List ℕ
  pub all : IsAllOf behind (records_text records ++ torn)
  pub read : IsReading opening (records_text records ++ torn) (whole records torn)

-- restored from what the journal's file gave, if that was there
pub record IsOpening {C F : Type 0} (gives : C → Moment → C → Type 0) (config : Config) (given : Option (List ℕ)) (before after : C)
    (j : Journal F) : Type 0 where
  pub start : Moment
  pub clock : gives before start after
  pub records : List Record
  pub next : AreNext (opening_at config start.seconds j.found) records
  pub found : j.found ≡ true → AreAllRecords given (opening_at config start.seconds true) records
  pub table : Agrees j.table.state (restored (opening_at config start.seconds j.found) records)
  pub made : j.found ≡ false → Agrees j.table.state (opening_at config start.seconds j.found)
  pub counts : (j.table.events ≡ 0) × (j.table.seen ≡ 0) × (j.table.max_entries ≡ config.max_entries)
