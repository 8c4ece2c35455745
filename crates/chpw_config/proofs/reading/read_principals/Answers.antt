-- The elements are read one after the other, up to the end or the first fault.
use Rattle.std.proofs.Common.{◌≡◌, [], ◌∷◌, get_or, Ok, Err, rules}
use Rattle.std.proofs.lemmas.List.{map-append}
use Rattle.toml.specs.View.{view}
use Rattle.chpw_rules.specs.declared.config.PrincipalRow.{PrincipalRow}
use Rattle.chpw_config.specs.Faults.{UnlessMemory}
use Rattle.chpw_config.specs.Rows.{principal_row}
use Rattle.chpw_config.proofs.WalkLemmas.{walked_all, walked_more, walked_to_fault}
use Rattle.chpw_config.proofs.reading.read_principals.Goals as goal

pub loop-value-preserved : goal.loop-value-preserved
loop-value-preserved c =
    let same : principal_row c.loop-value.rows.items (view (get_or c.args.list.now c.loop-value.value-index c.value-item.result)) ≡ Ok c.in_ok-row.row
    = rw (← c.value-item.is, ← c.as_slice.ensures.value) c.in_ok-row.ensures.value in
    record {
      walked = rw c.in_ok-push.ensures.items
          (walked_more principal_row c.args.list.now c.loop-value.rows.items c.loop-value.value-index c.value-item.result c.in_ok-row.row
          c.loop-value.invariant.walked c.loop-value-test.true same);
      known = rw (
        c.in_ok-push.ensures.items,
        map-append (λ (row : PrincipalRow). row.name) c.loop-value.rows.items (c.in_ok-row.row ∷ []),
        ←
            c.as_slice.ensures.value,
      )
          c.in_ok-row.ensures.knows;
    }

pub returns-in_err-row : goal.returns-in_err-row
returns-in_err-row c =
    let ended : c.from_residual-in_err-row.result ≡ Err c.in_err-row.field-0.0 = search rules in
    let told : UnlessMemory (Err c.in_err-row.field-0.0) (principal_row c.loop-value.rows.items (view (get_or c.args.list.now
    c.loop-value.value-index c.value-item.result)))
    = rw (← c.value-item.is, ← c.as_slice.ensures.value) c.in_err-row.ensures.value in
    record {
      value = rw ended
          (walked_to_fault principal_row c.args.list.now c.loop-value.rows.items c.loop-value.value-index c.value-item.result c.in_err-row.field-0.0
          c.loop-value.invariant.walked c.loop-value-test.true told);
    }

pub returns : goal.returns
returns c = record {
  value = walked_all principal_row c.args.list.now c.loop-value.rows.items c.loop-value.value-index c.loop-value.invariant.walked c.loop-value-test.false;
}
