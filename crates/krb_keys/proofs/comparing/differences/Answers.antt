use Rattle.std.proofs.Common.{rules}
use Rattle.krb_keys.proofs.ComparingLemmas.{one_further}
use Rattle.krb_keys.proofs.comparing.differences.Goals as goal

pub loop-rest-preserved : goal.loop-rest-preserved
loop-rest-preserved c =
    one_further c.args.one.now c.args.other.now c.loop-rest.rest.now c.loop-rest.others.now c.loop-rest.differences
    (search rules) c.loop-rest.invariant
