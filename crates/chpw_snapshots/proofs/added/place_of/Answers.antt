use Rattle.std.proofs.Common.{rules}
use Rattle.std.proofs.lemmas.Fn.{always_returns_same}
use Rattle.chpw_rules.specs.Names.{name_cmp}
use Rattle.chpw_changelog.specs.Changes.{short_name}
use Rattle.chpw_snapshots.specs.declared.row.Row.{Row}
use Rattle.chpw_snapshots.proofs.AddedLemmas.{searched}
use Rattle.chpw_snapshots.proofs.added.place_of.Goals as goal

pub returns : goal.returns
returns c =
    let by = c.binary_search_by.ensures.position (λ (r : Row). name_cmp r.name (short_name c.args.name.now))
    (always_returns_same _ _ _ (λ a r f called. (search rules, search rules))) in
    let all = searched c.args.rows.now (short_name c.args.name.now) c.binary_search_by.result c.requires.order c.binary_search_by.ensures.bound by in
    record { found = all.0; absent = all.1; place = all.2 }
