use Rattle.std.proofs.Common.{arith}
use Rattle.chpw_commands.proofs.SetupLemmas.{numbered_more}
use Rattle.chpw_commands.proofs.drill.setup.number_keys.Goals as goal

pub loop-key-preserved : goal.loop-key-preserved
loop-key-preserved c = record {
  versions = omega arith;
  rows = rw (c.in_ok-push.ensures.items, c.key_under.ensures.value)
      (numbered_more c.loop-key.rows.items _ c.loop-key.kvno c.loop-key.key-index c.args.keys.now (omega arith) c.loop-key.invariant.rows);
}
