-- Laws of what a journal begins with.
use Rattle.std.specs.Prelude.{◌≡◌, ◌⊎◌, ℕ, List, ◌++◌, length, Bool, true, false, Some}
use Rattle.chpw_rules.specs.Limits.{is_in, realm_lengths}
use Rattle.chpw_table.specs.State.{State}
use Rattle.chpw_table.specs.Agreement.{Held}
use Rattle.chpw_record.specs.declared.record.Record.{Record}
use Rattle.chpw_record.specs.Records.{record_text}
use Rattle.chpw_journal.specs.declared.restoring.Restored.{Restored}
use Rattle.chpw_journal.specs.JournalText.{is_cut_off, HasBadLength, HasBadBody}
use Rattle.chpw_journal.specs.Runs.{Run, journals}
use Rattle.chpw_journal.specs.Joined.{IsAlike, FollowOn, MayOpen}
use Rattle.chpw_journal.specs.Headings.{begins_as_heading, heading, realm_record, IsWholeRestored}

-- the record of a realm begins as one, and no record of a history does
abbrev pub HeadingsAreApart : Type 0
HeadingsAreApart = ((realm rest : List ℕ) → is_in realm_lengths (length realm) ≡ true → begins_as_heading (realm_record realm ++ rest) ≡ true)
    × ((c : Record) (rest : List ℕ) → begins_as_heading (record_text c ++ rest) ≡ false)

-- among the records of a history it is none of them, whatever follows it
abbrev pub HeadingsAreNoRecords : Type 0
HeadingsAreNoRecords = (realm rest : List ℕ) → is_in realm_lengths (length realm) ≡ true →
    HasBadLength (realm_record realm ++ rest) ⊎ HasBadBody (realm_record realm ++ rest)

-- a further run may open with what is restored, over a table like the one that the first opened with, from the journal of
-- runs after the heading of its realm, followed by a record that is cut off or nothing
abbrev pub WholeMayOpen : Type 0
WholeMayOpen = (s : State) (runs : List Run) (cut : List ℕ) (is_named : Bool) (before : Held) (r : Restored) →
    FollowOn s runs → is_cut_off cut ≡ true → IsAlike s before.state → is_in realm_lengths (length before.state.fixed.realm) ≡ true →
    IsWholeRestored before (Some (heading is_named before.state.fixed.realm ++ (journals runs ++ cut))) r → MayOpen s runs r.table.state
