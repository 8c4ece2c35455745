use Rattle.std.proofs.Common.{refl}
use Rattle.chpw_journal.proofs.restoring.Restored.take_record.Goals as goal

pub returns-in-Err-UnknownPrincipal-clause-fault : goal.returns-in-Err-UnknownPrincipal-clause-fault
returns-in-Err-UnknownPrincipal-clause-fault c =
    let n = rw c.in-Some.is at c.in_ok-record.ensures.value in
    let f = rw c.in-Err-UnknownPrincipal.field-0-is at c.in-Err-UnknownPrincipal.ensures.first in
    (refl, c.in-Some.record, n.0, n.1, f)

pub returns-in-Err-WrongVersion-clause-fault : goal.returns-in-Err-WrongVersion-clause-fault
returns-in-Err-WrongVersion-clause-fault c =
    let n = rw c.in-Some.is at c.in_ok-record.ensures.value in
    let f = rw c.in-Err-WrongVersion.field-0-is at c.in-Err-WrongVersion.ensures.first in
    (refl, c.in-Some.record, n.0, n.1, f)

pub returns-in-Err-TooMany-clause-fault : goal.returns-in-Err-TooMany-clause-fault
returns-in-Err-TooMany-clause-fault c =
    let n = rw c.in-Some.is at c.in_ok-record.ensures.value in
    let f = rw c.in-Err-TooMany.field-0-is at c.in-Err-TooMany.ensures.first in
    (refl, c.in-Some.record, n.0, n.1, f)
