use Rattle.chpw_kdc.proofs.HearingLemmas.{heard_on, fault_on}
use Rattle.chpw_kdc.proofs.dialog.KdcDialog.hear.Goals as goal

pub loop-rest-preserved : goal.loop-rest-preserved
loop-rest-preserved g c =
    heard_on _ _ _ c.loop-rest.self c.hear_byte.new.self _ c.loop-rest.rest.now c.loop-rest.invariant c.in-len1-up.len_at_least
    c.in_default-hear_byte.ensures.value

pub returns-in-Err-clause-fault : goal.returns-in-Err-clause-fault
returns-in-Err-clause-fault g c =
    fault_on _ _ _ c.loop-rest.self c.hear_byte.new.self c.end_at_fault.new.self _ c.loop-rest.rest.now _ c.loop-rest.invariant c.in-len1-up.len_at_least
    c.in-Err.ensures.fault c.in-Err.ensures.lost c.end_at_fault.ensures.step
