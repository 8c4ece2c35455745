use Rattle.std.proofs.Common.{rules}
use Rattle.chpw_connections.proofs.PresentLemmas.{presents_as, presents_none}
use Rattle.chpw_connections.proofs.presented.presents_ticket.Goals as goal

pub returns-in-Ok : goal.returns-in-Ok
returns-in-Ok c =
    presents_as c.args.realm.now c.args.ap.now c.in-Ok.request c.is_for_us.result c.in-Ok.ensures.value c.in-Ok.ensures.found c.is_for_us.ensures

pub returns-in-Err-Fault : goal.returns-in-Err-Fault
returns-in-Err-Fault c =
    presents_none c.args.realm.now c.args.ap.now c.read_all.result c.in-Err-Fault.field-0-0 (search rules) c.read_all.ensures.found
