use Rattle.std.proofs.Common.{Some, None, subst, sym}
use Rattle.chpw_connections.specs.Held.{slots_of, bounds_of}
use Rattle.chpw_connections.specs.Turns.{slot_of}
use Rattle.chpw_connections.specs.declared.taking.Reply.{Reply}
use Rattle.std.specs.Prelude.{Option, is_some}
use Rattle.chpw_transfers.specs.Kdc.{LeavesChange, reply_under}
use Rattle.chpw_transfers.specs.Steps.{IsAnswered}
use Rattle.chpw_transfers.specs.declared.kdc.Release.{Release}
use Rattle.chpw_transfers.specs.declared.kdc.Release.TheVariants as release
use Rattle.chpw_transfers.specs.declared.state.State.{State}
use Rattle.chpw_transfers.proofs.ReplyLemmas.{answers}
use Rattle.chpw_transfers.proofs.state.State.answer.Goals as goal

-- what the turn leaves for the KDC doesn't touch the connections

pub returns-in-Some-Now-clause-answered : goal.returns-in-Some-Now-clause-answered
returns-in-Some-Now-clause-answered c =
    let here = c.in-Some-Now in
    let mid = c.leave-release.new.self in
    let needed = is_some c.args.self.now.reach in
    let left = subst (λ (r : Release). LeavesChange needed c.args.now c.args.self.now.kdc c.args.turn.change mid.kdc r) here.is-1
    c.leave-release.ensures.left in
    let answered = answers (bounds_of mid.connections) c.args.now (slot_of c.args.turn.taken) (slots_of mid.connections)
    (slots_of c.answer.new.self) None c.args.turn.reply here.field-0-0 here.is-0
    c.answer.ensures.sent c.answer.ensures.too_much c.answer.ensures.unwanted in
    let sent = subst (λ (s : State). IsAnswered (bounds_of s.connections) c.args.now None c.args.turn.reply
    (slots_of s.connections) (slots_of c.answer.new.self) (slot_of c.args.turn.taken)) c.leave-release.ensures.rest answered in
    let whole = subst (λ (o : Option Reply). IsAnswered (bounds_of c.args.self.now.connections) c.args.now None o
    (slots_of c.args.self.now.connections) (slots_of c.answer.new.self) (slot_of c.args.turn.taken)) here.is-0 sent in (
      release.Now,
      left,
      subst (λ (o : Option Reply). IsAnswered (bounds_of c.args.self.now.connections) c.args.now None (reply_under o release.Now)
          (slots_of c.args.self.now.connections) (slots_of c.answer.new.self) (slot_of c.args.turn.taken)) (sym here.is-0) whole,
    )

pub returns-in-Some-After-clause-answered : goal.returns-in-Some-After-clause-answered
returns-in-Some-After-clause-answered c =
    let here = c.in-Some-After in
    let mid = c.leave-release.new.self in
    let needed = is_some c.args.self.now.reach in
    let left = subst (λ (r : Release). LeavesChange needed c.args.now c.args.self.now.kdc c.args.turn.change mid.kdc r) here.is-1
    c.leave-release.ensures.left in
    let answered = answers (bounds_of mid.connections) c.args.now (slot_of c.args.turn.taken) (slots_of mid.connections)
    (slots_of c.defer.new.self) (Some here.ticket) c.args.turn.reply here.field-0-0 here.is-0
    c.defer.ensures.sent c.defer.ensures.too_much c.defer.ensures.unwanted in
    let sent = subst (λ (s : State). IsAnswered (bounds_of s.connections) c.args.now (Some here.ticket) c.args.turn.reply
    (slots_of s.connections) (slots_of c.defer.new.self) (slot_of c.args.turn.taken)) c.leave-release.ensures.rest answered in
    let whole = subst (λ (o : Option Reply). IsAnswered (bounds_of c.args.self.now.connections) c.args.now (Some here.ticket) o
    (slots_of c.args.self.now.connections) (slots_of c.defer.new.self) (slot_of c.args.turn.taken)) here.is-0 sent in (
      release.After here.ticket,
      left,
      subst (λ (o : Option Reply). IsAnswered (bounds_of c.args.self.now.connections) c.args.now (Some here.ticket)
          (reply_under o (release.After here.ticket))
          (slots_of c.args.self.now.connections) (slots_of c.defer.new.self) (slot_of c.args.turn.taken)) (sym here.is-0) whole,
    )
