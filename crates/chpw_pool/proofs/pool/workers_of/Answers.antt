use Rattle.std.proofs.Common.{rules, ◌≡◌, ◌∙◌, refl, subst, sym, length, slice_get, Some, arith}
use Rattle.std.proofs.lemmas.Option.{slice_get_read}
use Rattle.rand_chacha.specs.ChaCha.{key_of}
use Rattle.chpw_pool.specs.PoolWorkers.{AreWorkersFrom}
use Rattle.chpw_pool.proofs.WorkerLemmas.{one_more}
use Rattle.chpw_pool.proofs.pool.workers_of.Goals as goal

pub loop-pass-preserved : goal.loop-pass-preserved
loop-pass-preserved g c =
    let key = key_of c.args.seed in
    let passes = c.args.passes.now in
    let index = c.loop-pass.pass-index in
    let so_far = c.loop-pass.invariant in
    let count : index ≡ length c.loop-pass.workers.items = search rules in
    let at : slice_get passes index ≡ Some c.pass-item.result =
    slice_get_read passes (length passes) index c.pass-item.result refl c.loop-pass-test.true c.pass-item.is in (
      omega (arith, c.in_ok-push.ensures.len, so_far.0),
      subst (AreWorkersFrom key 0 passes) (sym c.in_ok-push.ensures.items)
          (one_more key passes c.loop-pass.workers.items _ index c.pass-item.result count at
          (record {
            number_is = c.new.ensures.number ∙ (c.len-number.ensures ∙ so_far.0);
            turns_are = c.new.ensures.turns;
            clock_is = c.new-in-loop-pass.ensures.start;
            words_are = c.words_of.ensures.start;
          })
          so_far.1),
    )
