use Rattle.chpw_serve.specs.Hearing.{HoldsNobody, NotesNothing}
use Rattle.chpw_serve.proofs.ServedAloneLemmas.{served_alone_of}
use Rattle.chpw_serve.proofs.serving_alone.serve_alone.Goals as goal

pub returns-clause-replies : goal.returns-clause-replies
returns-clause-replies g c = served_alone_of (g.M.Messages.error_frame c.args.service.now)
    (g.M.Messages.private_frame c.args.service.now) (g.M.Messages.opens c.args.service.now c.args.ends)
    HoldsNobody NotesNothing c.args.ends.peer g.C.Clock.gives g.X.Words.gives c.serve_stream-ended.result
    _ _ _ _ _ _ _ _ _ _ _ _ c.serve_stream-ended.ensures.served c.know_history.ensures.kept
    c.know_history.ensures.short
