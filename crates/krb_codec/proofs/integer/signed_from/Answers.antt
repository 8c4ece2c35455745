use Rattle.std.proofs.Common.{◌^◌, ◌<◌, ◌+◌, arith, ℤ, to_z, w64, get_or, take}
use Rattle.std.proofs.lemmas.Int.{ints}
use Rattle.std.specs.Int.Digits.{number_from_digits_after}
use Rattle.krb_codec.proofs.IntegerLemmas.{pow_more, pow_few, times_fits, one_more, value_more, sign_weight, sign_weight_more, number_more}
use Rattle.krb_codec.proofs.integer.signed_from.Goals as goal

pub overflow_mul-n : goal.overflow_mul-n
overflow_mul-n c =
    let few = pow_few c.loop-byte.byte-index (omega (arith, c.loop-byte-test.true, c.requires)) in
    times_fits (to_z w64 c.loop-byte.n-bits) (256 ^ c.loop-byte.byte-index) few c.loop-byte.invariant.above c.loop-byte.invariant.below

pub loop-byte-preserved : goal.loop-byte-preserved
loop-byte-preserved c =
    let i = c.loop-byte.byte-index in
    let n : ℤ = to_z w64 c.loop-byte.n-bits in
    let b = get_or c.args.rest.now i 0 in
    let small = c.type_inv.rest i in
    let below : b < 256 = omega (arith, small) in
    let few = pow_few i (omega (arith, c.loop-byte-test.true, c.requires)) in
    let so_far = c.loop-byte.invariant in
    let is = one_more n c.from.result b (256 ^ i) c.from.ensures below few so_far.above so_far.below in
    let more = pow_more i in
    let value = value_more n b (sign_weight c.args.first (i + 1)) (number_from_digits_after 256 (0 + c.args.first)
    (take i c.args.rest.now)) (sign_weight c.args.first (i + 1 + 1)) (number_from_digits_after 256
    (0 + c.args.first) (take (i + 1) c.args.rest.now)) so_far.value (sign_weight_more c.args.first (i + 1))
    (number_more (0 + c.args.first) i c.args.rest.now c.loop-byte-test.true) in
    record {
      value = rw is value;
      above = rw is (omega (arith, ints, more, so_far.above));
      below = rw is (omega (arith, ints, more, so_far.below));
    }
