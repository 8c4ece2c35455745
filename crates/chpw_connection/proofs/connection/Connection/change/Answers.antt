use Rattle.std.proofs.Common.{sym, subst}
use Rattle.chpw_connection.specs.Changes.{event_of}
use Rattle.chpw_connection.specs.Stages.{Goes}
use Rattle.chpw_connection.specs.declared.event.ConnectionEvent.{ConnectionEvent}
use Rattle.chpw_connection.proofs.connection.Connection.change.Goals as goal

pub returns-in-Closed-clause-goes : goal.returns-in-Closed-clause-goes
returns-in-Closed-clause-goes c =
    subst (λ (e : ConnectionEvent). Goes c.args.now c.args.self.now c.input_ended.new.self (event_of e)) (sym c.in-Closed.is)
    (c.input_ended.ensures.goes c.args.now)

pub returns-in-Failed-clause-goes : goal.returns-in-Failed-clause-goes
returns-in-Failed-clause-goes c =
    subst (λ (e : ConnectionEvent). Goes c.args.now c.args.self.now c.fail.new.self (event_of e)) (sym c.in-Failed.is)
    (c.fail.ensures.goes c.args.now)
