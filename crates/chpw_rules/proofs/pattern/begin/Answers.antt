-- A prefix with one more star.
use Rattle.std.proofs.Common.{◌≡◌, ◌+◌, ◌<◌, ◌==◌, ◌&&◌, length, get_or, false, arith}
use Rattle.std.proofs.lemmas.Grind.{common_steps}
use Rattle.chpw_rules.specs.Patterns.{star}
use Rattle.chpw_rules.proofs.PatternLemmas.{begun_more}
use Rattle.chpw_rules.proofs.pattern.begin.Goals as goal
use Rattle.chpw_rules.proofs.pattern.begin.Goals.{then-matched-k, else-matched-k}

pub loop-k-preserved : goal.loop-k-preserved
loop-k-preserved c =
    let room : c.loop-k.k + 1 < length c.loop-k.matched = grind (arith, common_steps, c.loop-k.auto.matched, c.requires.room, c.loop-k-test.true) in
    let value : c.if-matched-k.matched ≡ (get_or c.loop-k.matched c.loop-k.k false && (get_or c.args.pattern.now c.loop-k.k 0 == star))
    = elim c.if-matched-k.branch [
      | then-matched-k w ↦ rw (w.matched-is, w.if-matched-k.true)
      | else-matched-k w ↦ rw (w.matched-is, w.if-matched-k.false)
    ] in
    begun_more c.args.pattern.now c.loop-k.matched c.loop-k.k c.if-matched-k.matched c.loop-k-test.true room
    c.loop-k.invariant value
