use Rattle.std.proofs.Common.{◌≤◌, length, arith}
use Rattle.std.proofs.lemmas.Grind.{common_steps}
use Rattle.chpw_blocks.proofs.BlockLemmas.{none_joined}
use Rattle.chpw_blocks.proofs.reading.read_blocks.Goals as goal

pub returns-in_default : goal.returns-in_default
returns-in_default c = record {
  value = λ blocks short e.
      let some : 1 ≤ length c.loop-rest.rest.now = grind (arith, common_steps) in
      none_joined c.args.text.now blocks c.loop-rest.blocks.items c.loop-rest.rest.now some short
      c.loop-rest.invariant.1 c.in_default.ensures.value c.loop-rest.invariant.0 e;
}
