use Rattle.std.proofs.Common.{◌-◌}
use Rattle.chpw_serve.specs.Answering.{Answering, Unanswered}
use Rattle.chpw_serve.specs.Serving.{stream_state, message_too_long}
use Rattle.chpw_serve.proofs.ServingLemmas.{SoFar}
use Rattle.chpw_serve.proofs.serving.serve_stream.Given as goal

abbrev pub invariant-loop-served : goal.invariant-loop-served
invariant-loop-served g l = SoFar (Answering (g.M.Messages.error_frame l.service)
    (g.M.Messages.private_frame l.service) g.D.Decider.may_be_full g.D.Decider.gathered g.D.Decider.follows
    g.D.Decider.made g.G.Gate.passes g.G.Observer.hears (g.M.Messages.opens l.service l.ends) l.ends.peer)
    (Unanswered g.D.Decider.gathered g.D.Decider.follows g.D.Decider.made g.G.Gate.passes g.G.Observer.hears (g.M.Messages.opens l.service l.ends) l.ends.peer)
    (λ now. g.M.Messages.error_frame l.service message_too_long now) g.C.Clock.gives g.X.Words.gives g.G.Gate.passes g.G.Observer.hears l.ends.peer
    (stream_state (g.R.Read.remaining l.initial.reader) l.initial.decider (g.W.Write.contents l.initial.writer) l.initial.clock l.initial.words l.initial.gate)
    (stream_state (g.R.Read.remaining l.reader) l.decider (g.W.Write.contents l.writer) l.clock l.words l.gate)
    l.served

abbrev pub decreases-loop-served : goal.decreases-loop-served
decreases-loop-served g l = 65536 - l.served
