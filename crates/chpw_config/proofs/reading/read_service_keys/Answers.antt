-- The elements are read one after the other, up to the end or the first fault.
use Rattle.std.proofs.Common.{◌≡◌, get_or, Ok, Err, rules}
use Rattle.toml.specs.View.{view}
use Rattle.chpw_config.specs.Faults.{UnlessMemory}
use Rattle.chpw_config.specs.Rows.{service_row}
use Rattle.chpw_config.proofs.WalkLemmas.{walked_all, walked_more, walked_to_fault}
use Rattle.chpw_config.proofs.reading.read_service_keys.Goals as goal

pub loop-value-preserved : goal.loop-value-preserved
loop-value-preserved c =
    let same : service_row c.loop-value.keys.items (view (get_or c.args.list.now c.loop-value.value-index c.value-item.result)) ≡ Ok c.in_ok-key.key
    = rw (← c.value-item.is, ← c.as_slice.ensures.value) c.in_ok-key.ensures.value in
    rw c.in_ok-push.ensures.items
    (walked_more service_row c.args.list.now c.loop-value.keys.items c.loop-value.value-index c.value-item.result c.in_ok-key.key
    c.loop-value.invariant c.loop-value-test.true same)

pub returns-in_err-key : goal.returns-in_err-key
returns-in_err-key c =
    let ended : c.from_residual-in_err-key.result ≡ Err c.in_err-key.field-0.0 = search rules in
    let told : UnlessMemory (Err c.in_err-key.field-0.0) (service_row c.loop-value.keys.items (view (get_or c.args.list.now c.loop-value.value-index
    c.value-item.result)))
    = rw (← c.value-item.is, ← c.as_slice.ensures.value) c.in_err-key.ensures.value in
    record {
      value = rw ended
          (walked_to_fault service_row c.args.list.now c.loop-value.keys.items c.loop-value.value-index c.value-item.result c.in_err-key.field-0.0
          c.loop-value.invariant c.loop-value-test.true told);
    }

pub returns : goal.returns
returns c = record {
  value = walked_all service_row c.args.list.now c.loop-value.keys.items c.loop-value.value-index c.loop-value.invariant c.loop-value-test.false;
}
