-- Why an append to a journal's file failed, and how that is printed.
use Rattle.std.specs.Prelude.{ℕ, ◌+◌, ◌-◌, ◌==◌, nat_lt, ℤ, pos, negsuc, List, ◌++◌, codes, Option, Some, None, if◌then◌else◌}
use Rattle.std.specs.Fmt.{decimal}
use Rattle.std.specs.Ordering.{int_eq}
use Rattle.chpw_journal.specs.declared.sink_cause.SinkCause.{SinkCause}
use Rattle.chpw_journal.specs.declared.sink_cause.SinkCause.TheVariants.{NoSpace, ReadOnly, InputOutput, TooLarge, Quota, Other, Unknown, Nameless}

-- an error of the system's that has no name here
abbrev pub of_number : ℤ → SinkCause
of_number (pos n) = Other n
of_number (negsuc n) = Unknown

-- ENOSPC, EROFS, EIO, EFBIG and EDQUOT of Linux
abbrev pub cause_by : ℤ → SinkCause
cause_by code = if int_eq code (pos 28) then NoSpace
    else if int_eq code (pos 30) then ReadOnly
    else if int_eq code (pos 5) then InputOutput
    else if int_eq code (pos 27) then TooLarge
    else if int_eq code (pos 122) then Quota
    else of_number code

abbrev pub cause_of : Option ℤ → SinkCause
cause_of None = Unknown
cause_of (Some code) = cause_by code

-- the number that stands for a cause where threads share one
abbrev pub mark_of : SinkCause → ℕ
mark_of NoSpace = 1
mark_of ReadOnly = 2
mark_of InputOutput = 3
mark_of TooLarge = 4
mark_of Quota = 5
mark_of (Other n) = 8 + n
mark_of Unknown = 6
mark_of Nameless = 7

-- no error has a number of more than 32 bits
abbrev pub other_cause : ℕ → SinkCause
other_cause n = if nat_lt n 4294967296 then Other n else Unknown

abbrev pub cause_at : ℕ → Option SinkCause
cause_at mark = if mark == 0 then None
    else if mark == 1 then Some NoSpace
    else if mark == 2 then Some ReadOnly
    else if mark == 3 then Some InputOutput
    else if mark == 4 then Some TooLarge
    else if mark == 5 then Some Quota
    else if mark == 6 then Some Unknown
    else if mark == 7 then Some Nameless
    else Some (other_cause (mark - 8))

-- the cause that is kept: the first one
abbrev pub first_of : Option SinkCause → SinkCause → Option SinkCause
first_of None cause = Some cause
first_of (Some first) cause = Some first

-- a cause as it is printed
abbrev pub cause_text : SinkCause → List ℕ
cause_text NoSpace = codes "no space left"
cause_text ReadOnly = codes "read-only file system"
cause_text InputOutput = codes "input/output error"
cause_text TooLarge = codes "file too large"
cause_text Quota = codes "quota exceeded"
cause_text (Other n) = codes "error " ++ decimal n
cause_text Unknown = codes "unknown error"
cause_text Nameless = codes "its name may be lost"
