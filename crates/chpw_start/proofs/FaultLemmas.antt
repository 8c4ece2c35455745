-- The faults of a journal's file, and of a journal that is only read.
use Rattle.std.specs.Prelude.{◌≢◌, ℕ, List, Option, refl}
use Rattle.chpw_rules.specs.declared.config.Config.{Config}
use Rattle.chpw_table.specs.Agreement.{Held}
use Rattle.chpw_journal.specs.JournalFile.{IsUnopened, IsUnrestored}
use Rattle.chpw_journal.specs.declared.journal_file.OpenFault.{OpenFault}
use Rattle.chpw_journal.specs.declared.journal_file.OpenFault.TheVariants.{CannotRead, CannotWrite, Restore}
use Rattle.chpw_journal.specs.declared.fault.RestoreFault.{RestoreFault}
use Rattle.chpw_journal.specs.declared.fault.RestoreFault.TheVariants as restore
use Rattle.chpw_report.specs.Held.{IsHeldFault}
use Rattle.chpw_start.specs.Faults.{IsOfFile, IsOfRecords}

pub unopened : (fault : OpenFault) → IsUnopened fault → IsOfFile fault
unopened CannotRead h = tt
unopened CannotWrite h = tt
unopened (Restore fault) h = absurd h

pub unrestored : (before : Held) (given : Option (List ℕ)) (fault : OpenFault) → IsUnrestored before given fault → IsOfFile fault
unrestored before given CannotRead h = absurd h
unrestored before given CannotWrite h = tt
unrestored before given (Restore fault) h = (before, given, h)

pub unheld : (config : Config) (journal : Option (List ℕ)) (fault : RestoreFault)
    → fault ≢ restore.Memory → IsHeldFault config journal fault → IsOfRecords fault
unheld config journal restore.Memory other h = absurd (other refl)
unheld config journal (restore.BadRecord number) other h = (h.0, journal, h.2)
unheld config journal (restore.WrongVersion number) other h = (h.0, journal, h.2)
unheld config journal (restore.UnknownPrincipal number) other h = (h.0, journal, h.2)
unheld config journal (restore.TooMany number) other h = (h.0, journal, h.2)
unheld config journal restore.OtherRealm other h = (h.0, journal, h.2)
unheld config journal restore.CannotRead other h = (h.0, journal, h.2)
