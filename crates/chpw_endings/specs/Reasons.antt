-- Why a fault came, as it is printed after the fault's line, and what is looked at for that.
use Rattle.std.specs.Prelude.{ℕ, Bool, List, [], ◌∷◌, ◌++◌, codes, string_bytes, nat_lt, Option, Some, None, option_map, if◌then◌else◌}
use Rattle.std.specs.Borrow.{Bor}
use Rattle.std.specs.Fmt.{decimal}
use Rattle.std.specs.Net.Text.{ip_text, socket_text}
use Rattle.std.specs.Str.{bytes_eq}
use Rattle.chpw_import.specs.declared.fault.KeysFault.TheVariants as keys
use Rattle.chpw_invocation.specs.declared.invocation.Invocation.{Invocation}
use Rattle.chpw_invocation.specs.declared.invocation.Invocation.TheVariants.{Check, NewJournal, Serve, Table, Client}
use Rattle.chpw_journal.specs.declared.fault.RestoreFault.{RestoreFault}
use Rattle.chpw_start.specs.declared.fault.ServeFault.TheVariants as service
use Rattle.chpw_endings.specs.declared.ending.Ending.{Ending}
use Rattle.chpw_endings.specs.declared.ending.Ending.TheVariants as ending
use Rattle.chpw_endings.specs.declared.journals.JournalFiles.{JournalFiles}
use Rattle.chpw_endings.specs.declared.reasons.Cause.{Cause}
use Rattle.chpw_endings.specs.declared.reasons.Cause.TheVariants.{Unread, Unwritten, BadConfig, Unlistened}
use Rattle.chpw_endings.specs.declared.reasons.Named.{Named}
use Rattle.chpw_endings.specs.declared.reasons.Reason.{Reason}
use Rattle.chpw_endings.specs.declared.reasons.Reason.TheVariants.{Missing, NoFolder, Forbidden, Folder, Special, Short, Long}
use Rattle.chpw_endings.specs.declared.reasons.Reason.TheVariants.{Held, InWords, InUse, NoAddress, Privileged, Overlapping}

abbrev pub line_of : Reason → List ℕ
line_of (Missing file) = file.now ++ codes ": no such file"
line_of (NoFolder file) = file.now ++ codes ": no such directory"
line_of (Forbidden file) = file.now ++ codes ": permission denied"
line_of (Folder file) = file.now ++ codes ": is a directory"
line_of (Special file) = file.now ++ codes ": not a regular file"
line_of (Short file) = file.now ++ codes ": fewer than 32 bytes"
line_of (Long file) = file.now ++ codes ": longer than 64 MiB"
line_of (Held file) = file.now ++ codes ": in use by another process"
line_of (InWords file words) = file.now ++ (codes ": " ++ string_bytes words)
line_of (InUse place) = socket_text place ++ codes ": in use"
line_of (NoAddress place) = socket_text place ++ codes ": no such address on this host"
line_of (Privileged port) = codes "port " ++ (decimal port ++ codes ": ports below 1024 require a privilege")
line_of (Overlapping wildcard other) = ip_text wildcard ++ (codes " overlaps " ++ ip_text other)

-- its line, if there is one
abbrev pub told_of : Option Reason → List ℕ
told_of None = []
told_of (Some reason) = line_of reason ++ 10 ∷ []

abbrev pub is_privileged : ℕ → Bool
is_privileged port = nat_lt port 1024

-- what a path leads to that is no file
abbrev pub of_type : Bor (List ℕ) → Bool → Bool → Option Reason
of_type path is_folder is_file = if is_folder then Some (Folder path) else if is_file then None else Some (Special path)

-- the files and the port that a command names; of them it is `serve` that locks one, the journal
abbrev pub named_by : Invocation → Named
named_by (Serve o) = record { config = Some o.config; seed = Some o.seed; locked = Some o.journal; listen = Some o.listen; port = o.port }
named_by (Table o) = record { config = Some o.config; seed = None; locked = None; listen = None; port = 0 }
named_by (NewJournal o) = record { config = Some o.config; seed = None; locked = None; listen = None; port = 0 }
named_by (Client o) = record { config = Some o.config; seed = Some o.seed; locked = None; listen = None; port = 0 }
named_by (Check config) = record { config = Some config; seed = None; locked = None; listen = None; port = 0 }
named_by _ = record { config = None; seed = None; locked = None; listen = None; port = 0 }

-- standard input has no reason
abbrev pub of_unread : Bor (List ℕ) → Option Cause
of_unread file = if bytes_eq file.now (codes "standard input") then None else Some (Unread file)

-- what is looked at for the reason of an ending
abbrev pub cause_of : Ending → Named → Option Cause
cause_of (ending.Unread file) named = of_unread file
cause_of (ending.Unbrought (keys.CannotRead file)) named = Some (Unread file)
cause_of (ending.Unserved (service.CannotRead file)) named = Some (Unread file)
cause_of (ending.Unserved (service.CannotWrite file)) named = Some (Unwritten file)
cause_of (ending.Unserved (service.Config fault)) named = option_map (λ file. BadConfig file) named.config
cause_of (ending.Unserved service.CannotListen) named = option_map (λ listen. Unlistened listen named.port) named.listen
cause_of _ named = None

-- the fault of a journal with which a run ends, and the files that a command reads which restores one
abbrev pub journal_fault : Ending → Option RestoreFault
journal_fault (ending.Unserved (service.Journal fault)) = Some fault
journal_fault _ = None

abbrev pub journal_files : Invocation → Option JournalFiles
journal_files (Serve o) = Some (record { config = o.config; journal = o.journal })
journal_files (Table o) = Some (record { config = o.config; journal = o.journal })
journal_files _ = None
