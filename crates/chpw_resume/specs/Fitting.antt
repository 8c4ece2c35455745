-- Whether a resume file fits a start.
use Rattle.std.specs.Prelude.{ℕ, ℤ, pos, int_le, List, Bool, not, ◌&&◌, ◌||◌, ◌==◌, bytes_eq, if◌then◌else◌, Option, Some, None}
use Rattle.chpw_table.specs.Times.{is_later}
use Rattle.chpw_table.specs.declared.times.TheConstants.{LAST_SECOND}
use Rattle.chpw_resume.specs.declared.mark.JournalMark.{JournalMark}
use Rattle.chpw_resume.specs.declared.fitting.Misfit.{Misfit}
use Rattle.chpw_resume.specs.declared.fitting.Misfit.TheVariants.{Realm, Journal, Future}
use Rattle.chpw_resume.specs.declared.resume.Resume.{Resume}

abbrev pub is_mark : JournalMark → JournalMark → Bool
is_mark one other = (one.length == other.length) && bytes_eq one.sum other.sum

-- a time of the years 1970 to 9999
abbrev pub is_time : ℤ → Bool
is_time time = int_le (pos 0) time && int_le time LAST_SECOND

-- the first reason why it doesn't fit a start of this realm, with this journal, at this time: its clock is a time, and neither that
-- nor its quiet time is later than the start by more than the skew
abbrev pub misfit_of : Resume → List ℕ → JournalMark → ℤ → Option Misfit
misfit_of r realm journal start =
    if not (bytes_eq r.realm realm) then Some Realm
    else if not (is_mark r.journal journal) then Some Journal
    else if not (is_time r.carried.clock) || is_later r.carried.clock start || is_later r.carried.quiet_until start then Some Future
    else None
