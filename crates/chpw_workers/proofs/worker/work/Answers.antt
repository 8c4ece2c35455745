use Rattle.std.proofs.Common.{◌++◌, ◌∷◌, [], List, ap, ◌∙◌, append_assoc}
use Rattle.chpw_workers.specs.declared.inbox.WorkerTurn.{WorkerTurn}
use Rattle.chpw_workers.specs.Turns.{at}
use Rattle.chpw_workers.proofs.ChainLemmas.{turns_lift, turns_more}
use Rattle.chpw_workers.proofs.worker.work.Goals as goal

pub loop-preserved : goal.loop-preserved
loop-preserved g c =
    let service = c.args.context.now.service.now in
    let error_frame = g.M.Messages.error_frame service in
    let private_frame = g.M.Messages.private_frame service in
    let opens = g.M.Messages.opens service in
    let moments = g.C.Clock.gives in
    let random = g.X.Words.gives in
    let has_kdc = c.args.context.now.has_kdc in
    let so_far = c.loop.invariant.2 in
    let turn = c.do_task-turn.result in
    let before = c.loop.decider in
    let after = c.do_task-turn.new.decider in
    let goes = c.do_task-turn.ensures.follows in
    let start = at (g.K.Decider.gathered c.args.decider.now) c.args.worker.now.clock c.args.worker.now.words in
    let mid = at (g.K.Decider.gathered before) c.loop.worker.clock c.loop.worker.words in
    let end = at (g.K.Decider.gathered after) c.do_task-turn.new.worker.clock c.do_task-turn.new.worker.words in (
      tt,
      tt,
      (
        so_far.0 ++ turn ∷ [],
        c.answer.ensures.turns
            ∙ (ap (λ (ts : List WorkerTurn). ts ++ turn ∷ []) (ap g.I.Inbox.turns c.do_task-turn.ensures.inbox ∙ (c.next-in-loop.ensures.turns ∙ so_far.1))
            ∙ append_assoc (g.I.Inbox.turns c.args.worker.now.inbox) so_far.0 (turn ∷ [])),
        turns_more moments random error_frame private_frame opens (g.K.Decider.may_be_full after) (g.K.KdcDecider.holds after) has_kdc start
            so_far.0 mid turn end
            (turns_lift moments random error_frame private_frame opens (g.K.Decider.may_be_full before) (g.K.Decider.may_be_full after)
            (λ rs h. g.met.K.Decider.still_full before after rs goes h) (g.K.KdcDecider.holds before) (g.K.KdcDecider.holds after)
            (λ name keys h. g.met.K.KdcDecider.still_holds before after name keys goes h) has_kdc start so_far.0 mid so_far.2)
            c.do_task-turn.ensures.turn,
      ),
      g.met.K.Decider.goes_on c.args.decider.now before after c.loop.invariant.3 goes,
    )
