-- What a service leaves at a clean end.
use Rattle.chpw_resume.specs.declared.mark.JournalMark.{JournalMark}
use Rattle.chpw_resume.specs.declared.resume.Resume.{Resume}
use Rattle.chpw_table.specs.State.{State}
use Rattle.chpw_table.specs.Resuming.{carried_of}

-- of the table that its last desk left, and of its journal
abbrev pub left_of : State → JournalMark → Resume
left_of s journal = record { realm = s.fixed.realm; journal = journal; carried = carried_of s }
