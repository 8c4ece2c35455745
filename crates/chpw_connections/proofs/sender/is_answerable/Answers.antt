use Rattle.std.proofs.Common.{◌∙◌, ap, is_none, sym}
use Rattle.chpw_connections.proofs.PresentLemmas.{answered_for}
use Rattle.chpw_connections.proofs.sender.is_answerable.Goals as goal

pub returns-in-Ok : goal.returns-in-Ok
returns-in-Ok c =
    answered_for c.args.own_port c.args.realm.now c.args.sender c.args.message.now c.in-Ok.parts.ap.now c.presents_ticket.result
    (sym c.is_service.ensures.value ∙ c.if-is_service.false) (ap is_none c.in-Ok.ensures.none) c.in-Ok.ensures.ap c.presents_ticket.ensures
