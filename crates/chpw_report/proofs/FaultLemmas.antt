-- A fault of a journal over an opening.
use Rattle.std.proofs.Common.{ℕ, List, Option}
use Rattle.chpw_rules.specs.declared.config.Config.{Config}
use Rattle.chpw_table.specs.Agreement.{Agrees, Held}
use Rattle.chpw_journal.specs.declared.fault.RestoreFault.{RestoreFault}
use Rattle.chpw_journal.specs.declared.fault.RestoreFault.TheVariants.{BadRecord, WrongVersion, UnknownPrincipal, TooMany, OtherRealm, CannotRead, Memory}
use Rattle.chpw_journal.specs.Headings.{IsWholeRefused}
use Rattle.chpw_report.specs.Held.{opening, IsHeldFault}

pub held_fault : (config : Config) (journal : Option (List ℕ)) (fault : RestoreFault) (before : Held)
    → Agrees before.state (opening config) → IsWholeRefused before journal fault → IsHeldFault config journal fault
held_fault config journal (BadRecord n) before opens refused = (before, opens, refused)
held_fault config journal (WrongVersion n) before opens refused = (before, opens, refused)
held_fault config journal (UnknownPrincipal n) before opens refused = (before, opens, refused)
held_fault config journal (TooMany n) before opens refused = (before, opens, refused)
held_fault config journal OtherRealm before opens refused = (before, opens, refused)
held_fault config journal CannotRead before opens refused = (before, opens, refused)
held_fault config journal Memory before opens refused = tt
