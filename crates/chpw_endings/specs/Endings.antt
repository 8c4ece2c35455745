-- How a run ends: its status and its line on standard error.
use Rattle.std.specs.Prelude.{ℕ, Bool, true, false, List, [], ◌∷◌, ◌++◌, Result, Ok, Err, codes, string_bytes, if◌then◌else◌}
use Rattle.chpw_commands.specs.Drilled.{fault_text}
use Rattle.chpw_commands.specs.declared.drill.DrillFault.{DrillFault}
use Rattle.chpw_import.specs.Faults.{line_of as keys_line}
use Rattle.chpw_import.specs.declared.fault.KeysFault.{KeysFault}
use Rattle.chpw_import.specs.declared.fault.KeysFault.TheVariants.{BadName}
use Rattle.chpw_start.specs.Faults.{line_of as service_line}
use Rattle.chpw_start.specs.declared.fault.ServeFault.{ServeFault}
use Rattle.chpw_endings.specs.declared.ending.Ending.{Ending}
use Rattle.chpw_endings.specs.declared.ending.Ending.TheVariants.{Good, Faulty, Early, Unread, Unserved, Unbrought}
use Rattle.chpw_endings.specs.declared.ending.Ending.TheVariants.{EmptyPassword, ManyLines, BadArgument, Unconnected}
use Rattle.chpw_endings.specs.declared.ending.Ending.TheVariants.{Unanswered, TimedOut, Refused, Misused, NotText}

abbrev pub status_of : Ending → ℕ
status_of Good = 0
status_of (Faulty file words) = 1
status_of (Early fault) = 1
status_of (Unread file) = 1
status_of (Unserved fault) = 1
status_of (Unbrought fault) = 1
status_of (EmptyPassword file) = 1
status_of (ManyLines file) = 1
status_of BadArgument = 2
status_of Unconnected = 1
status_of Unanswered = 1
status_of TimedOut = 1
status_of Refused = 1
status_of Misused = 2
status_of NotText = 2

-- the line on standard error
abbrev pub line_of : Ending → List ℕ
line_of Good = []
line_of (Faulty file words) = file.now ++ codes ": " ++ string_bytes words
line_of (Early fault) = fault_text fault
line_of (Unread file) = codes "cannot read " ++ file.now
line_of (Unserved fault) = service_line fault
line_of (Unbrought fault) = keys_line fault
line_of (EmptyPassword file) = file.now ++ codes ": the password is empty"
line_of (ManyLines file) = file.now ++ codes ": more than one line"
line_of BadArgument = codes "bad argument"
line_of Unconnected = codes "cannot connect"
line_of Unanswered = codes "connection ended"
line_of TimedOut = codes "no answer within 30 seconds"
line_of Refused = []
line_of Misused = []
line_of NotText = codes "a word of the command line is not UTF-8"

-- whether there is one
abbrev pub has_line : Ending → Bool
has_line Good = false
has_line (Faulty file words) = true
has_line (Early fault) = true
has_line (Unread file) = true
has_line (Unserved fault) = true
has_line (Unbrought fault) = true
has_line (EmptyPassword file) = true
has_line (ManyLines file) = true
has_line BadArgument = true
has_line Unconnected = true
has_line Unanswered = true
has_line TimedOut = true
has_line Refused = false
has_line Misused = false
has_line NotText = true

-- what is written there
abbrev pub told_of : Ending → List ℕ
told_of ending = if has_line ending then line_of ending ++ 10 ∷ [] else []

-- the end of `serve` and `table`
abbrev pub ending_served : {T : Type 0} → Result T ServeFault → Ending
ending_served (Ok x) = Good
ending_served (Err fault) = Unserved fault

-- of `drill`
abbrev pub ending_drilled : {T : Type 0} → Result T DrillFault → Ending
ending_drilled (Ok x) = Good
ending_drilled (Err fault) = Early fault

-- of `import` and `key`
abbrev pub ending_brought : {T : Type 0} → Result T KeysFault → Ending
ending_brought (Ok x) = Good
ending_brought (Err BadName) = BadArgument
ending_brought (Err fault) = Unbrought fault
