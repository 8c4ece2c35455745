use Rattle.std.proofs.Common.{◌∙◌, sym, ◌-◌, length, arith}
use Rattle.chpw_import.proofs.RowLemmas.{no_more, all_there, stopped, finished}
use Rattle.chpw_import.proofs.rows.keys_of.Goals as goal
use Rattle.chpw_import.proofs.rows.keys_of.Goals.{then-loop-alloc-test+else-kvno-gt0, else-loop-alloc-test}

pub returns-in_default : goal.returns-in_default
returns-in_default c = record {
  value = finished _ _ _ c.loop-alloc.invariant.0
      (stopped _ (16 - length c.loop-alloc.keys.items) c.loop-alloc.kvno (sym c.in_ok-pair.ensures.value ∙ c.in_default.is));
}

pub returns : goal.returns
returns c = elim c.loop-alloc-test.branch [
  | then-loop-alloc-test+else-kvno-gt0 w ↦ record {
    value = finished _ _ _ c.loop-alloc.invariant.0 (no_more _ (16 - length c.loop-alloc.keys.items) c.loop-alloc.kvno (omega (arith, w.if-kvno-gt0.false)));
  }
  | else-loop-alloc-test w ↦ record {
    value = finished _ _ _ c.loop-alloc.invariant.0 (all_there _ (16
        - length c.loop-alloc.keys.items) c.loop-alloc.kvno (omega (arith, w.loop-alloc-test.false, c.len.ensures)));
  }
]
