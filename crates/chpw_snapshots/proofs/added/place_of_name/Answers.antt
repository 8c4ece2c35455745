use Rattle.std.proofs.Common.{sym, rules}
use Rattle.std.proofs.lemmas.Fn.{always_returns_same}
use Rattle.chpw_rules.specs.Names.{name_cmp}
use Rattle.chpw_snapshots.specs.declared.row.Row.{Row}
use Rattle.chpw_snapshots.proofs.AddedLemmas.{found_place, found_none}
use Rattle.chpw_snapshots.proofs.added.place_of_name.Goals as goal

pub returns-in-Ok : goal.returns-in-Ok
returns-in-Ok c =
    let by = c.in-Ok.ensures.position (λ (r : Row). name_cmp r.name c.args.name.now)
    (always_returns_same _ _ _ (λ a r f called. (search rules, search rules))) in
    record { value = sym (found_place c.args.rows.now c.args.name.now c.in-Ok.place c.requires.order c.in-Ok.ensures.bound by) }

pub returns-in-Err : goal.returns-in-Err
returns-in-Err c =
    let by = c.in-Err.ensures.position (λ (r : Row). name_cmp r.name c.args.name.now)
    (always_returns_same _ _ _ (λ a r f called. (search rules, search rules))) in
    record { value = sym (found_none c.args.rows.now c.args.name.now c.in-Err.field-0 c.requires.order by) }
