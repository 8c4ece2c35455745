use Rattle.std.proofs.Common.{subst, ◌≡◌}
use Rattle.chpw_table.specs.declared.history.Event.TheVariants.{Update}
use Rattle.chpw_table.specs.Outcomes.{WritesBy}
use Rattle.chpw_commands.specs.declared.drill.sink.RequestSink.{RequestSink}
use Rattle.chpw_commands.proofs.AppendLemmas.{failed_of, told_of}
use Rattle.chpw_commands.proofs.UpdateLemmas.{updated_is, updated_runs, full_update_is, full_update_runs}
use Rattle.chpw_commands.proofs.drill.running.Drill.update.Goals as goal

-- to the sink that the update began with
writes : (c : goal.After-self-1) → WritesBy failed_of told_of c.args.self.now.table.state
    (record { fails = c.args.self.now.fails; failed = 0 }) c.update.new.sink c.in-Ok.outcome.io_failed (Update c.args.update c.in-Ok.outcome.verdict)
writes c = subst (λ (k : RequestSink). WritesBy failed_of told_of c.args.self.now.table.state k
    c.update.new.sink c.in-Ok.outcome.io_failed (Update c.args.update c.in-Ok.outcome.verdict)) c.new-sink.ensures.value c.in-Ok.ensures.writes

pub returns-in-Ok-clause-response : goal.returns-in-Ok-clause-response
returns-in-Ok-clause-response c = λ m r. updated_is c.args.self.now c.args.now c.args.update
    c.in-Ok.outcome c.update.new.sink c.update.new.self c.in-Ok.ensures.steps (writes c) c.in-Ok.ensures.returned m r

pub returns-in-Ok-clause-step : goal.returns-in-Ok-clause-step
returns-in-Ok-clause-step c = λ m r.
    rw c.still_fails-self.ensures.value (updated_runs c.args.self.now c.args.now c.args.update
    c.in-Ok.outcome c.update.new.sink c.update.new.self c.in-Ok.ensures.steps (writes c) c.in-Ok.ensures.returned m r)
