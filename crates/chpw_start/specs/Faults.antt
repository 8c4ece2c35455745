-- Why the service ends early: which faults its parts have, and their lines.
use Rattle.std.specs.Prelude.{◌≡◌, ◌≢◌, ◌⊎◌, ℕ, true, List, ◌++◌, Option, Some, None, Result, Err, codes}
use Rattle.std.specs.Borrow.{Bor}
use Rattle.std.specs.Str.{IsUtf8}
use Rattle.chpw_config.specs.Faults.{fault_text as config_text, no_toml}
use Rattle.chpw_config.specs.Kdc.{kdc_of}
use Rattle.chpw_config.specs.Settings.{settings_of}
use Rattle.chpw_rules.specs.declared.config.Config.{Config as Settings}
use Rattle.chpw_rules.specs.declared.pattern.NamePatterns.{NamePatterns}
use Rattle.chpw_config.specs.declared.fault.ConfigFault.{ConfigFault}
use Rattle.chpw_table.specs.Agreement.{Held}
use Rattle.chpw_journal.specs.Restoring.{fault_text as journal_text}
use Rattle.chpw_journal.specs.Headings.{IsWholeRefused}
use Rattle.chpw_journal.specs.declared.fault.RestoreFault.{RestoreFault}
use Rattle.chpw_journal.specs.declared.journal_file.OpenFault.{OpenFault}
use Rattle.chpw_journal.specs.declared.journal_file.OpenFault.TheVariants as open_fault
use Rattle.chpw_journal.specs.declared.fault.RestoreFault.TheVariants as restore
use Rattle.chpw_journal.specs.declared.fault.RestoreFault.TheVariants.{Memory as NoMemory}
use Rattle.chpw_report.specs.declared.report.ReportFault.{ReportFault}
use Rattle.chpw_report.specs.declared.report.ReportFault.TheVariants as report
use Rattle.chpw_invocation.specs.declared.invocation.NewJournalOptions.{NewJournalOptions}
use Rattle.chpw_invocation.specs.declared.invocation.ServeOptions.{ServeOptions}
use Rattle.chpw_start.specs.declared.shared_files.Exposures.{Exposures}
use Rattle.chpw_start.specs.Modes.{first_exposed, words_of}
use Rattle.chpw_start.specs.declared.fault.ServeFault.{ServeFault}
use Rattle.chpw_start.specs.declared.fault.ServeFault.TheVariants.{CannotRead, Config, Exposed, CannotWrite, Present}
use Rattle.chpw_start.specs.declared.fault.ServeFault.TheVariants.{Journal, CannotListen, CannotListenAt}
use Rattle.chpw_start.specs.declared.fault.ServeFault.TheVariants.{CannotPrint, Memory, CannotClose}

abbrev pub line_of : ServeFault → List ℕ
line_of (CannotRead file) = codes "cannot read " ++ file.now
line_of (Config fault) = codes "config: " ++ config_text fault
line_of (Exposed e) = e.file.now ++ (codes ": not started, since " ++ words_of e.why)
line_of (CannotWrite file) = codes "cannot write " ++ file.now
line_of (Present file) = file.now ++ codes ": not made, since it is there already"
line_of (Journal fault) = codes "journal: " ++ journal_text fault
line_of CannotListen = codes "cannot listen"
line_of (CannotListenAt socket) = codes "cannot listen at " ++ socket.now
line_of CannotPrint = codes "cannot write"
line_of Memory = codes "memory"
line_of CannotClose = codes "cannot close"

-- what a file's bytes set: their settings or first fault; bytes that are not UTF-8 are no TOML
abbrev pub Sets : List ℕ → Result Settings ConfigFault → Type 0
Sets bytes found = (IsUtf8 bytes × (settings_of bytes ≡ found)) ⊎ (¬ (IsUtf8 bytes) × (found ≡ Err no_toml))

-- which names of the KDC's these bytes say are the service's, or the first fault of their table
abbrev pub SetsNames : List ℕ → Result NamePatterns ConfigFault → Type 0
SetsNames bytes found = (IsUtf8 bytes × (kdc_of bytes ≡ found)) ⊎ (¬ (IsUtf8 bytes) × (found ≡ Err no_toml))

-- the fault of the file at a path: it can't be read
abbrev pub IsUnread : List ℕ → ServeFault → Type 0
IsUnread path (CannotRead file) = file.now ≡ path
IsUnread path Memory = Unit {0}
IsUnread path fault = ⊥

-- the fault of these bytes of a configuration: their first
abbrev pub IsOfBytes : List ℕ → ServeFault → Type 0
IsOfBytes bytes (Config fault) = Sets bytes (Err fault)
IsOfBytes bytes Memory = Unit {0}
IsOfBytes bytes fault = ⊥

-- the fault of what these bytes say of the KDC's names: its first
abbrev pub IsOfNames : List ℕ → ServeFault → Type 0
IsOfNames bytes (Config fault) = SetsNames bytes (Err fault)
IsOfNames bytes Memory = Unit {0}
IsOfNames bytes fault = ⊥

-- the fault of the configuration: it can't be read, or its bytes have this first fault
abbrev pub IsOfSettings : List ℕ → ServeFault → Type 0
IsOfSettings path (Config fault) = (bytes : List ℕ) × Sets bytes (Err fault)
IsOfSettings path fault = IsUnread path fault

-- some bytes of a journal have this first fault, over some table
abbrev pub IsOfRecords : RestoreFault → Type 0
IsOfRecords fault = (before : Held) × (bytes : Option (List ℕ)) × IsWholeRefused before bytes fault

-- the fault of opening or restoring a journal's file, which is one of some bytes
abbrev pub IsOfFile : OpenFault → Type 0
IsOfFile open_fault.CannotRead = Unit {0}
IsOfFile open_fault.CannotWrite = Unit {0}
IsOfFile (open_fault.Restore fault) = IsOfRecords fault

-- the fault of the journal: it can't be read, made or cut, or its bytes have this first fault
abbrev pub IsOfJournal : List ℕ → ServeFault → Type 0
IsOfJournal path (CannotWrite file) = file.now ≡ path
IsOfJournal path (Journal fault) = (fault ≢ NoMemory) × IsOfRecords fault
IsOfJournal path fault = IsUnread path fault

-- the fault of a file that is to be made: something is at its path, or it can't be made there
abbrev pub IsUnmade : List ℕ → ServeFault → Type 0
IsUnmade path (Present file) = file.now ≡ path
IsUnmade path (CannotWrite file) = file.now ≡ path
IsUnmade path Memory = Unit {0}
IsUnmade path fault = ⊥

-- the fault of the resume file that is made with a journal, if there is one
abbrev pub IsOfFirstResume : Option (Bor (List ℕ)) → ServeFault → Type 0
IsOfFirstResume None fault = ⊥
IsOfFirstResume (Some path) fault = IsUnmade path.now fault

-- the fault of a journal that is to be made: that of its configuration, its own, or that of its resume file
abbrev pub IsOfNewJournal : NewJournalOptions → ServeFault → Type 0
IsOfNewJournal o fault = IsOfSettings o.config.now fault ⊎ (IsUnmade o.journal.now fault ⊎ IsOfFirstResume o.resume fault)

-- the fault of a start with strict modes: others can do something to one of its files
abbrev pub IsOfModes : ServeOptions → ServeFault → Type 0
IsOfModes o (Exposed e) = (o.strict_modes ≡ true) × ((exposures : Exposures) × (first_exposed o exposures ≡ Some e))
IsOfModes o fault = ⊥

-- the fault of the log at a path: it can't be made or appended to
abbrev pub IsUnlogged : List ℕ → ServeFault → Type 0
IsUnlogged path (CannotWrite file) = file.now ≡ path
IsUnlogged path Memory = Unit {0}
IsUnlogged path fault = ⊥

-- the fault of the log, if there is one
abbrev pub IsOfLog : Option (Bor (List ℕ)) → ServeFault → Type 0
IsOfLog None fault = ⊥
IsOfLog (Some path) fault = IsUnlogged path.now fault

-- the fault of a log or journal that is another file of the start: it can't be written
abbrev pub IsOfClash : ServeOptions → ServeFault → Type 0
IsOfClash o fault = IsOfLog o.log fault ⊎ IsOfJournal o.journal.now fault

-- a fault after the files are read
abbrev pub IsLate : ServeFault → Type 0
IsLate CannotListen = Unit {0}
IsLate CannotPrint = Unit {0}
IsLate Memory = Unit {0}
IsLate CannotClose = Unit {0}
IsLate fault = ⊥

-- the fault of a journal that is only read, and the line of one that is opened at a path
abbrev pub restore_fault : RestoreFault → ServeFault
restore_fault restore.Memory = Memory
restore_fault (restore.BadRecord number) = Journal (restore.BadRecord number)
restore_fault (restore.WrongVersion number) = Journal (restore.WrongVersion number)
restore_fault (restore.UnknownPrincipal number) = Journal (restore.UnknownPrincipal number)
restore_fault (restore.TooMany number) = Journal (restore.TooMany number)
restore_fault restore.OtherRealm = Journal restore.OtherRealm
restore_fault restore.CannotRead = Journal restore.CannotRead

abbrev pub open_line : List ℕ → OpenFault → List ℕ
open_line path open_fault.CannotRead = codes "cannot read " ++ path
open_line path open_fault.CannotWrite = codes "cannot write " ++ path
open_line path (open_fault.Restore fault) = line_of (restore_fault fault)

-- the fault of a report that can't be written
abbrev pub report_fault : ReportFault → ServeFault
report_fault report.Memory = Memory
report_fault report.Write = CannotPrint
