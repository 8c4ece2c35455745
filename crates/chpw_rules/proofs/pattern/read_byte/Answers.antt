-- The places so far have what `is_matched` says, those to come what they had.
use Rattle.std.proofs.Common.{◌≡◌, ◌+◌, ◌<◌, length, get_or, false, arith, ◌≢◌, get_or-set_other}
use Rattle.std.proofs.lemmas.Grind.{common_steps}
use Rattle.chpw_rules.specs.Prefixes.{is_matched}
use Rattle.chpw_rules.proofs.PatternLemmas.{read_more}
use Rattle.chpw_rules.proofs.pattern.read_byte.Goals as goal

pub loop-k-preserved : goal.loop-k-preserved
loop-k-preserved c =
    let room : c.loop-k.k + 1 < length c.loop-k.matched = grind (arith, common_steps, c.loop-k.auto.matched, c.requires.room, c.loop-k-test.true) in
    let here : get_or c.loop-k.matched (c.loop-k.k + 1) false ≡ get_or c.args.matched.now (c.loop-k.k + 1) false
    = c.loop-k.invariant.others (c.loop-k.k + 1) (omega arith) in
    let value : c.is_matched.result ≡ is_matched (get_or c.args.pattern.now c.loop-k.k 0) c.args.byte
    (get_or c.loop-k.matched c.loop-k.k false) (get_or c.args.matched.now (c.loop-k.k + 1) false) (get_or c.args.matched.now c.loop-k.k false)
    = rw (← here, ← c.loop-k.invariant.kept) c.is_matched.ensures.value in
    record {
      done = λ text known. read_more c.args.pattern.now text c.args.byte c.args.matched.now c.loop-k.matched c.loop-k.k
          c.is_matched.result c.loop-k-test.true room known (c.loop-k.invariant.done text known) value;
      kept = here;
      others = λ n above. let ne : n ≢ c.loop-k.k + 1 = omega arith in rw get_or-set_other (c.loop-k.invariant.others n (omega arith));
    }
