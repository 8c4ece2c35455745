use Rattle.std.proofs.Common.{◌≡◌, ℕ, ◌+◌, List, ◌++◌, if◌then◌else◌, subst}
use Rattle.std.specs.Prelude.{option_map}
use Rattle.chpw_table.specs.Journal.{raise_appended}
use Rattle.chpw_commands.specs.declared.drill.sink.RequestSink.{RequestSink}
use Rattle.chpw_commands.proofs.AppendLemmas.{failed_of, told_of}
use Rattle.chpw_commands.proofs.RaiseLemmas.{told_is, raised_runs, full_is, full_runs}
use Rattle.chpw_commands.proofs.drill.running.Drill.raise.Goals as goal

-- from the sink that the raise began with
abbrev Begun : goal.After-self-1 → RequestSink → Type 0
Begun c k = (failed_of c.raise.new.sink ≡ (if c.in-Ok.raise.io_failed then failed_of k + 1 else failed_of k))
    × (told_of c.raise.new.sink ≡ option_map (λ xs. xs ++ raise_appended c.args.count c.in-Ok.raise.verdict) (told_of k))

begun : (c : goal.After-self-1) → Begun c (record { fails = c.args.self.now.fails; failed = 0 })
begun c = subst (Begun c) c.new-sink.ensures.value (c.in-Ok.ensures.io, c.in-Ok.ensures.told)

pub returns-in-Ok-clause-response : goal.returns-in-Ok-clause-response
returns-in-Ok-clause-response c = λ m r.
    told_is c.args.self.now c.args.now c.args.count c.in-Ok.raise c.raise.new.sink
    c.raise.new.self c.in-Ok.ensures.legal c.in-Ok.ensures.step (begun c).0 (begun c).1 c.in-Ok.ensures.room m r

pub returns-in-Ok-clause-step : goal.returns-in-Ok-clause-step
returns-in-Ok-clause-step c = λ m r.
    rw c.still_fails-self.ensures.value (raised_runs c.args.self.now c.args.now
    c.args.count c.in-Ok.raise c.raise.new.sink c.raise.new.self c.in-Ok.ensures.legal c.in-Ok.ensures.step
    (begun c).0 (begun c).1 c.in-Ok.ensures.room m r c.in-Ok.ensures.counts.0 c.in-Ok.ensures.counts.2)

pub returns-in-Err-clause-response : goal.returns-in-Err-clause-response
returns-in-Err-clause-response c = λ m r. full_is c.args.self.now c.args.now c.args.count c.in-Err.ensures.full m r

pub returns-in-Err-clause-step : goal.returns-in-Err-clause-step
returns-in-Err-clause-step c = λ m r. rw c.in-Err.ensures.unchanged.0 (full_runs c.args.self.now c.args.now c.args.count c.in-Err.ensures.full m r)
