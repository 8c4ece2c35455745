use Rattle.std.proofs.Common.{refl, sym, ◌∙◌, true, false, codes}
use Rattle.chpw_import.proofs.RowLemmas.{second_decides, first_decides, few_decide, more_decide, compared}
use Rattle.chpw_import.proofs.rows.is_service.Goals as goal

pub returns-then-eq : goal.returns-then-eq
returns-then-eq c = record {
  value = sym (compared _ _ c.as_slice-then-eq.result.now c.as_slice-then-eq-2.result.now c.second-item.result (codes "changepw")
      c.eq-then-eq.ensures c.as_slice-then-eq.ensures.value c.as_slice-then-eq-2.ensures refl)
      ∙ second_decides c.args.name.now c.as_slice.result.now c.first-item.result c.second-item.result
      c.as_slice.ensures.value c.in-len2.len_at_least c.in-len2.len_below c.first-item.is c.second-item.is
      (compared _ true c.as_slice-in-len2.result.now c.as_slice-in-len2-2.result.now c.first-item.result (codes "kadmin")
      c.eq.ensures c.as_slice-in-len2.ensures.value c.as_slice-in-len2-2.ensures c.if-eq.true);
}

pub returns-else-eq : goal.returns-else-eq
returns-else-eq c = record {
  value = c.if-eq.false
      ∙ first_decides c.args.name.now c.as_slice.result.now c.first-item.result c.second-item.result
      c.as_slice.ensures.value c.in-len2.len_at_least c.in-len2.len_below c.first-item.is c.second-item.is
      (compared _ false c.as_slice-in-len2.result.now c.as_slice-in-len2-2.result.now c.first-item.result (codes "kadmin")
      c.eq.ensures c.as_slice-in-len2.ensures.value c.as_slice-in-len2-2.ensures c.if-eq.false);
}

pub returns-in_default : goal.returns-in_default
returns-in_default c = record { value = few_decide c.args.name.now c.as_slice.result.now c.as_slice.ensures.value c.in_default.len_below }

pub returns-in_default-2 : goal.returns-in_default-2
returns-in_default-2 c = record { value = more_decide c.args.name.now c.as_slice.result.now c.as_slice.ensures.value c.in_default.len_at_least }
