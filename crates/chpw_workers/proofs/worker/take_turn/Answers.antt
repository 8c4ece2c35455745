use Rattle.std.proofs.Common.{Some, [], refl, rules}
use Rattle.chpw_serve.specs.Serving.{stream_state}
use Rattle.chpw_connections.specs.Turns.{message_of, ends_of}
use Rattle.chpw_workers.proofs.TurnLemmas.{comes}
use Rattle.chpw_workers.proofs.FollowLemmas.{follows_on}
use Rattle.chpw_workers.proofs.worker.take_turn.Goals as goal

pub returns-clause-turn : goal.returns-clause-turn
returns-clause-turn g c =
    let service = c.args.service.now in
    let old = c.args.worker.now in
    let new = c.reply_to-reply.new.worker in
    let r = c.reply_to-reply.ensures.replied in
    let mid = c.reply_to-reply.new.decider in
    let opens = g.M.Messages.opens service in
    let replied = comes (g.M.Messages.error_frame service) (g.M.Messages.private_frame service) g.K.Decider.may_be_full g.K.Decider.gathered
    g.K.Decider.follows g.K.Decider.made g.G.Gate.passes g.G.Observer.hears opens g.C.Clock.gives g.X.Words.gives
    c.args.taken c.reply_to-reply.result
    (message_of c.args.taken) r.1 refl c.reply_to-reply.ensures.piece r.0
    (stream_state (Some (message_of c.args.taken)) c.args.decider.now (Some []) old.clock old.words old.gate)
    (stream_state r.2 mid (Some r.1) new.clock new.words new.gate) refl refl refl r.3 r.4 in
    record { comes = replied; change = search rules }

pub returns-clause-follows : goal.returns-clause-follows
returns-clause-follows g c =
    let service = c.args.service.now in
    let old = c.args.worker.now in
    let new = c.reply_to-reply.new.worker in
    let r = c.reply_to-reply.ensures.replied in
    follows_on (g.M.Messages.error_frame service) (g.M.Messages.private_frame service) g.K.Decider.may_be_full g.K.Decider.gathered
    g.K.Decider.follows g.K.Decider.made g.G.Gate.passes g.G.Observer.hears (g.M.Messages.opens service (ends_of c.args.taken))
    g.C.Clock.gives g.X.Words.gives (ends_of c.args.taken).peer g.met.K.Decider.stays g.met.K.Decider.goes_on r.0
    (stream_state (Some (message_of c.args.taken)) c.args.decider.now (Some []) old.clock old.words old.gate)
    (stream_state r.2 c.reply_to-reply.new.decider (Some r.1) new.clock new.words new.gate) r.3
