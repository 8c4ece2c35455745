use Rattle.std.proofs.Common.{arith}
use Rattle.chpw_commands.proofs.NumberLemmas.{over_high}
use Rattle.chpw_commands.proofs.drill.words.digits_up_to.Goals as goal

pub returns-then-value-high : goal.returns-then-value-high
returns-then-value-high c = record {
  value = over_high c.args.digits.now c.loop-rest.value c.args.high c.loop-rest.rest.now (omega arith) c.loop-rest.invariant.number (omega arith);
}
