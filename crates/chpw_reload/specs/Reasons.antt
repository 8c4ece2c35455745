-- Why a reload is refused, and how that is printed.
use Rattle.std.specs.Prelude.{ℕ, ◌+◌, min, List, ◌++◌, codes}
use Rattle.chpw_rules.specs.declared.name.Name.{Name}
use Rattle.chpw_printing.specs.Quoting.{name_text, quoted}
use Rattle.chpw_journal.specs.declared.fault.RestoreFault.{RestoreFault}
use Rattle.chpw_journal.specs.declared.fault.RestoreFault.TheVariants as journal
use Rattle.chpw_journal.specs.Restoring as restoring
use Rattle.chpw_reload.specs.declared.fault.ReloadFault.{ReloadFault}
use Rattle.chpw_reload.specs.declared.fault.ReloadFault.TheVariants.{Realm, Journal, Keys, Limits, Memory}

-- a fault of a journal
abbrev pub fault_of : RestoreFault → ReloadFault
fault_of (journal.BadRecord n) = Journal (journal.BadRecord n)
fault_of (journal.WrongVersion n) = Journal (journal.WrongVersion n)
fault_of (journal.UnknownPrincipal n) = Journal (journal.UnknownPrincipal n)
fault_of (journal.TooMany n) = Journal (journal.TooMany n)
fault_of journal.OtherRealm = Journal journal.OtherRealm
fault_of journal.CannotRead = Journal journal.CannotRead
fault_of journal.Memory = Memory

-- a record's number after others, up to 64 bits
abbrev pub number_after : ℕ → ℕ → ℕ
number_after records n = min (records + n) 18446744073709551615

-- a fault that was found after this many records
abbrev pub fault_after : ℕ → RestoreFault → RestoreFault
fault_after records (journal.BadRecord n) = journal.BadRecord (number_after records n)
fault_after records (journal.WrongVersion n) = journal.WrongVersion (number_after records n)
fault_after records (journal.UnknownPrincipal n) = journal.UnknownPrincipal (number_after records n)
fault_after records (journal.TooMany n) = journal.TooMany (number_after records n)
fault_after records journal.OtherRealm = journal.OtherRealm
fault_after records journal.CannotRead = journal.CannotRead
fault_after records journal.Memory = journal.Memory

-- the realm of a configuration, and the one that is held
abbrev pub realms_text : (held new : List ℕ) → List ℕ
realms_text held new = codes "another realm: " ++ quoted new ++ codes ", not " ++ quoted held

abbrev pub keys_text : Name → List ℕ
keys_text name = codes "other keys of " ++ name_text name

-- a fault as it is printed
abbrev pub fault_text : ReloadFault → List ℕ
fault_text (Realm held new) = realms_text held new
fault_text (Journal fault) = restoring.fault_text fault
fault_text (Keys name) = keys_text name
fault_text Limits = codes "too many principals"
fault_text Memory = codes "memory"
