-- What is made with a new journal for its first start: the resume file of a run with that journal that answered no request.
use Rattle.std.specs.Prelude.{◌≡◌, ◌≤ℤ◌, ℕ, ℤ, pos, negsuc, int_le, false, List, [], length, None}
use Rattle.chpw_journal.specs.Headings.{realm_record}
use Rattle.chpw_resume.specs.Fitting.{misfit_of}
use Rattle.chpw_resume.specs.ResumeText.{mark_of}
use Rattle.chpw_resume.specs.declared.mark.JournalMark.{JournalMark}
use Rattle.chpw_resume.specs.declared.resume.Resume.{Resume}
use Rattle.chpw_table.specs.declared.table.resuming.ResumeState.{ResumeState}

-- the mark of a new journal of this realm, which has the realm's record alone
abbrev pub new_mark : List ℕ → JournalMark
new_mark realm = mark_of (length (realm_record realm)) (realm_record realm)

-- no id is used, no event has come since the beginning of 1970, and it is quiet before that
abbrev pub nothing_left : ResumeState
nothing_left = record { ids = []; clock = pos 0; quiet_until = negsuc 0 }

abbrev pub first_resume : List ℕ → Resume
first_resume realm = record { realm = realm; journal = new_mark realm; carried = nothing_left }

-- it fits each start of its realm with its journal, and no request from 1970 on comes within its quiet time
pub record OpensAtOnce (resume : Resume) : Type 0 where
  pub fits : (start : ℤ) → pos 0 ≤ℤ start → misfit_of resume resume.realm resume.journal start ≡ None
  pub open_to : (ctime : ℤ) → pos 0 ≤ℤ ctime → int_le ctime resume.carried.quiet_until ≡ false
