use Rattle.std.proofs.Common.{◌<◌, arith}
use Rattle.krb_codec.specs.Integers.{number}
use Rattle.krb_codec.proofs.LengthLemmas.{byte_more, byte_fits, number_step}
use Rattle.krb_codec.proofs.region.number_of.Goals as goal

pub overflow_mul-n : goal.overflow_mul-n
overflow_mul-n c = let fits = byte_fits c.loop-b.n c.loop-b.b-index 0 c.loop-b.invariant.below
    (omega (arith, c.loop-b-test.true, c.requires)) (omega arith) in omega (arith, fits)

pub overflow_add-n : goal.overflow_add-n
overflow_add-n c =
    let byte = c.type_inv.bytes c.loop-b.b-index in
    let b : c.from.result < 256 = omega (arith, byte, c.from.ensures) in
    let fits = byte_fits c.loop-b.n c.loop-b.b-index c.from.result c.loop-b.invariant.below
    (omega (arith, c.loop-b-test.true, c.requires)) b in omega (arith, fits)

pub loop-b-preserved : goal.loop-b-preserved
loop-b-preserved c =
    let byte = c.type_inv.bytes c.loop-b.b-index in
    let b : c.from.result < 256 = omega (arith, byte, c.from.ensures) in
    record {
      value = number_step c.loop-b.n c.loop-b.b-index c.from.result c.args.bytes.now
          (number c.args.bytes.now) c.loop-b-test.true c.from.ensures c.loop-b.invariant.value;
      below = byte_more c.loop-b.n c.loop-b.b-index c.from.result c.loop-b.invariant.below b;
    }
