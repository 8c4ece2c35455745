use Rattle.std.proofs.Common.{sym, subst}
use Rattle.chpw_table.specs.Outcomes.{Writes}
use Rattle.chpw_commands.specs.declared.drill.sink.RequestSink.{RequestSink}
use Rattle.chpw_commands.proofs.AppendLemmas.{failed_of, told_of}
use Rattle.chpw_commands.proofs.RespondLemmas.{said_is, runs_on, refused_is, refused_runs}
use Rattle.chpw_commands.proofs.drill.running.Drill.respond.Goals as goal

-- to the sink that the request began with
writes : (c : goal.Joined-outcome) → Writes failed_of told_of c.args.self.now.table.state
    (record { fails = c.args.self.now.fails; failed = 0 }) c.decide.new.sink c.args.asked.opened c.in-Ok.outcome
writes c = subst (λ (k : RequestSink). Writes failed_of told_of c.args.self.now.table.state k
    c.decide.new.sink c.args.asked.opened c.in-Ok.outcome) c.new-sink.ensures.value c.in-Ok.ensures.writes

pub returns-in-Ok-clause-response : goal.returns-in-Ok-clause-response
returns-in-Ok-clause-response c = λ m r. said_is c.args.self.now
    c.args.asked c.in-Ok.outcome c.decide.new.sink c.decide.new.self c.in-Ok.ensures.steps (writes c) m r

pub returns-in-Ok-clause-step : goal.returns-in-Ok-clause-step
returns-in-Ok-clause-step c = λ m r.
    rw c.still_fails-self.ensures.value (runs_on c.args.self.now
    c.args.asked c.in-Ok.outcome c.decide.new.sink c.decide.new.self c.in-Ok.ensures.steps (writes c) m r)

pub returns-in-Some-clause-response : goal.returns-in-Some-clause-response
returns-in-Some-clause-response c =
    λ m r. refused_is c.args.self.now c.args.asked m r c.in-Err.refused.fault c.in-Some.response
    (c.in-Err.ensures.refused.first m.state r.state) (sym c.in-Some.ensures.value)

pub returns-in-Some-clause-step : goal.returns-in-Some-clause-step
returns-in-Some-clause-step c =
    λ m r. rw c.in-Err.ensures.unchanged.0 (refused_runs c.args.self.now c.args.asked m r c.in-Err.refused.fault
    c.in-Some.response (c.in-Err.ensures.refused.first m.state r.state) (sym c.in-Some.ensures.value))
