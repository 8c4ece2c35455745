use Rattle.std.proofs.Common.{◌∙◌, sym, rules}
use Rattle.std.proofs.lemmas.Fn.{always_returns_same}
use Rattle.chpw_rules.specs.declared.config.PrincipalRow.{PrincipalRow}
use Rattle.chpw_rules.specs.Names.{name_cmp}
use Rattle.chpw_import.proofs.UsedLemmas.{used_at, unused_at}
use Rattle.chpw_import.proofs.left_out.used_keys.Goals as goal

pub returns-in-Ok : goal.returns-in-Ok
returns-in-Ok c =
    let by = c.in-Ok.ensures.position (λ (row : PrincipalRow). name_cmp row.name c.args.name.now)
    (always_returns_same _ _ _ (λ a r f called. (search rules, search rules))) in
    record {
      value = c.as_slice.ensures.value ∙ sym (used_at c.args.name.now c.args.principals.now
          c.in-Ok.place c.index-principals-place.result c.requires.sorted c.in-Ok.ensures.bound by);
    }

pub returns-in-Err : goal.returns-in-Err
returns-in-Err c =
    let by = c.in-Err.ensures.position (λ (row : PrincipalRow). name_cmp row.name c.args.name.now)
    (always_returns_same _ _ _ (λ a r f called. (search rules, search rules))) in
    record { value = sym (unused_at c.args.name.now c.args.principals.now c.in-Err.field-0 c.requires.sorted by) }
