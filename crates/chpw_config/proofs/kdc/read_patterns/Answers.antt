-- The elements are read one after the other, up to the end or the first fault.
use Rattle.std.proofs.Common.{◌≡◌, get_or, Ok, Err, rules}
use Rattle.toml.specs.View.{view}
use Rattle.chpw_config.specs.Faults.{UnlessMemory}
use Rattle.chpw_config.specs.Kdc.{pattern_row}
use Rattle.chpw_config.proofs.WalkLemmas.{walked_more, walked_to_fault}
use Rattle.chpw_config.proofs.kdc.read_patterns.Goals as goal

pub loop-value-preserved : goal.loop-value-preserved
loop-value-preserved c =
    let same : pattern_row c.args.part c.loop-value.patterns.items (view (get_or c.args.list.now c.loop-value.value-index c.value-item.result)) ≡ Ok
    c.in_ok-pattern.pattern
    = search rules in
    rw c.in_ok-push.ensures.items
    (walked_more (pattern_row c.args.part) c.args.list.now c.loop-value.patterns.items c.loop-value.value-index c.value-item.result c.in_ok-pattern.pattern
    c.loop-value.invariant c.loop-value-test.true same)

pub returns-in_err-pattern : goal.returns-in_err-pattern
returns-in_err-pattern c =
    let ended : c.from_residual-in_err-pattern.result ≡ Err c.in_err-pattern.field-0.0 = search rules in
    let told : UnlessMemory (Err c.in_err-pattern.field-0.0) (pattern_row c.args.part c.loop-value.patterns.items (view (get_or c.args.list.now
    c.loop-value.value-index c.value-item.result)))
    = search rules in
    record {
      value = rw ended
          (walked_to_fault (pattern_row c.args.part) c.args.list.now c.loop-value.patterns.items c.loop-value.value-index c.value-item.result
          c.in_err-pattern.field-0.0
          c.loop-value.invariant c.loop-value-test.true told);
    }
