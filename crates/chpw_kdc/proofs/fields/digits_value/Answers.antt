use Rattle.std.proofs.Common.{arith}
use Rattle.chpw_kdc.proofs.NumberLemmas.{over_high}
use Rattle.chpw_kdc.proofs.fields.digits_value.Goals as goal

pub returns-then-value-gt4294967295 : goal.returns-then-value-gt4294967295
returns-then-value-gt4294967295 c = record {
  value = over_high c.args.digits.now c.loop-rest.value c.loop-rest.rest.now (omega arith) c.loop-rest.invariant.number (omega arith);
}
