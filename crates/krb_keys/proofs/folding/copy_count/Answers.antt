use Rattle.std.proofs.Common.{◌≡◌, arith}
use Rattle.std.proofs.Math.Nat.{mul-mod_right}
use Rattle.krb_keys.proofs.CopyLemmas.{copy_count_found}
use Rattle.krb_keys.proofs.folding.copy_count.Goals as goal

pub returns-then-count-len-eq0 : goal.returns-then-count-len-eq0
returns-then-count-len-eq0 c = record {
  value = copy_count_found c.args.len c.args.part_len c.loop-count.count (omega arith) (omega arith) c.if-count-len-eq0.true c.loop-count.invariant;
  short = omega arith;
}

pub returns : goal.returns
returns c =
    let end : c.loop-count.count ≡ c.args.part_len = omega arith in
    record {
      value = copy_count_found c.args.len c.args.part_len c.args.part_len (omega arith) (omega arith)
          (mul-mod_right c.args.part_len c.args.len) (λ j low high. c.loop-count.invariant j low (omega arith));
      short = omega arith;
    }
