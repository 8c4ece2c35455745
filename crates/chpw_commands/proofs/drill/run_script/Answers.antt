use Rattle.std.proofs.Common.{ap, ◌+◌}
use Rattle.chpw_commands.proofs.RunLemmas.{goes_on, ends_bad}
use Rattle.chpw_commands.proofs.drill.run_script.Goals as goal

pub loop-line-preserved : goal.loop-line-preserved
loop-line-preserved c = record {
  number = ap (λ n. n + 1) c.loop-line.invariant.number;
  run = rw (c.in_ok-extend_from_slice.ensures.items, c.as_slice.ensures.value) (goes_on _
      c.loop-line.stage c.loop-line.number c.loop-line.line-index _ c.as_slice-lines.result.now c.loop-line.output.items
      c.loop-line-test.true c.loop-line.invariant.run c.in-Some.turn (rw c.in-Some.is at c.in_ok-turn.ensures.value));
}

pub returns-in_default : goal.returns-in_default
returns-in_default c = record {
  value = rw c.of.ensures.value (ends_bad _ c.loop-line.stage c.loop-line.number c.loop-line.line-index _
      c.as_slice-lines.result.now c.loop-line.output.items c.loop-line-test.true c.loop-line.invariant.run
      (rw c.in_default.is at c.in_ok-turn.ensures.value));
}
