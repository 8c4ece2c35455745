-- What a start takes over of the run before it.
use Rattle.std.specs.Prelude.{◌≡◌, ◌⊎◌, ℕ, ℤ, List, codes, Option, Some, None}
use Rattle.std.specs.Borrow.{Bor}
use Rattle.chpw_invocation.specs.declared.invocation.ServeOptions.{ServeOptions}
use Rattle.chpw_resume.specs.Fitting.{misfit_of}
use Rattle.chpw_resume.specs.ResumeText.{ResumeFits}
use Rattle.chpw_resume.specs.declared.fitting.Misfit.TheVariants.{Realm, Journal, Future}
use Rattle.chpw_resume.specs.declared.mark.JournalMark.{JournalMark}
use Rattle.chpw_resume.specs.declared.reading.ResumeFault.TheVariants.{Unknown, Damaged}
use Rattle.chpw_resume.specs.declared.resume.Resume.{Resume}
use Rattle.chpw_table.specs.Agreement.{Agrees, Held}
use Rattle.chpw_table.specs.Resuming.{resumed}
use Rattle.chpw_table.specs.Times.{IsTime}
use Rattle.chpw_table.specs.declared.table.resuming.ResumeState.{ResumeState}
use Rattle.chpw_start.specs.Faults.{IsOfJournal, IsUnread}
use Rattle.chpw_start.specs.Modes.{words_of}
use Rattle.chpw_start.specs.declared.fault.ServeFault.{ServeFault}
use Rattle.chpw_start.specs.declared.fault.ServeFault.TheVariants.{CannotWrite}
use Rattle.chpw_start.specs.declared.resuming.Found.{Found}
use Rattle.chpw_start.specs.declared.resuming.Found.TheVariants.{Nothing, Unfit, Fit}
use Rattle.chpw_start.specs.declared.resuming.SetAside.{SetAside}
use Rattle.chpw_start.specs.declared.resuming.SetAside.TheVariants.{Exposed, Unread, TooLong, Fault, Misfit}

-- a resume file that fits a start of this realm at this time, with some journal, leaves this
pub record IsLeft (realm : List ℕ) (start : ℤ) (left : ResumeState) : Type 0 where
  pub resume : Resume
  pub fits : ResumeFits resume
  pub journal : JournalMark
  pub first : misfit_of resume realm journal start ≡ None
  pub is : left ≡ resume.carried

-- a table that takes this over: its ids, clock and quiet time are those that were left, all else is as it was restored
pub record TakesOver (before : Held) (left : ResumeState) (next : Held) : Type 0 where
  pub agrees : Agrees next.state (resumed left before.state)
  pub counts : (next.events ≡ 0) × (next.seen ≡ 0) × (next.max_entries ≡ before.max_entries)

-- the table that a service opens with: the restored one, or that one with what was left
abbrev pub IsTakenOver : ℤ → Held → Option ResumeState → Held → Type 0
IsTakenOver start before None next = next ≡ before
IsTakenOver start before (Some left) next = IsLeft before.state.fixed.realm start left × TakesOver before left next

-- what stands at the path of a resume file, for a start of this realm at this time: where it fits, what it leaves
abbrev pub IsFound : List ℕ → ℤ → Found → Type 0
IsFound realm start Nothing = Unit {0}
IsFound realm start (Unfit why) = Unit {0}
IsFound realm start (Fit left) = IsLeft realm start left × IsTime left.clock

-- the fault of the resume file at a path: it is none that can be read, or it can't be removed
abbrev pub IsAtResume : List ℕ → ServeFault → Type 0
IsAtResume path (CannotWrite file) = file.now ≡ path
IsAtResume path fault = IsUnread path fault

abbrev pub IsOfResume : Option (Bor (List ℕ)) → ServeFault → Type 0
IsOfResume None fault = ⊥
IsOfResume (Some path) fault = IsAtResume path.now fault

-- or that of the journal, whose end can't be read
abbrev pub IsOfResumption : ServeOptions → ServeFault → Type 0
IsOfResumption o fault = IsOfResume o.resume fault ⊎ IsOfJournal o.journal.now fault

abbrev pub reason_words : SetAside → List ℕ
reason_words (Exposed why) = words_of why
reason_words Unread = codes "it can't be read"
reason_words TooLong = codes "it is too long"
reason_words (Fault Unknown) = codes "it is no resume file of this version"
reason_words (Fault Damaged) = codes "it is damaged"
reason_words (Misfit Realm) = codes "it is of another realm"
reason_words (Misfit Journal) = codes "the journal is not as it was left"
reason_words (Misfit Future) = codes "its time is later than the clock"
