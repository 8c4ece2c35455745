use Rattle.std.proofs.Common.{◌≡◌, true, sym, ◌∙◌, ap, rules}
use Rattle.std.specs.Prelude.{position}
use Rattle.std.specs.Ordering.{eq_by_cmp}
use Rattle.chpw_rules.specs.Names.{is_same_name, name_cmp}
use Rattle.chpw_table.specs.declared.table.Principal.{Principal}
use Rattle.chpw_table.specs.Holding.{are_holders}
use Rattle.chpw_table.proofs.OrderLemmas.{same_name_ties, position_alike}
use Rattle.chpw_table.proofs.PlacingLemmas.{no_place}
use Rattle.chpw_table.proofs.SortingLemmas.{holders_order}
use Rattle.chpw_table.proofs.table.Table.place_for.Goals as goal

pub place_for-requires-clause-sorted : goal.place_for-requires-clause-sorted
place_for-requires-clause-sorted c =
    let h : are_holders c.self.inside.principals.items ≡ true = search rules in
    rw c.as_slice.ensures.value (holders_order c.self.inside.principals.items h)

pub place_for-requires-clause-absent : goal.place_for-requires-clause-absent
place_for-requires-clause-absent c =
    let rows : c.as_slice.result.now ≡ c.args.self.now.state.principals = search rules in
    let h : are_holders c.args.self.now.state.principals ≡ true = search rules in
    position_alike (λ (p : Principal). eq_by_cmp name_cmp p.name c.args.name.now)
    (λ (p : Principal). is_same_name p.name c.args.name.now)
    (λ p. sym (same_name_ties p.name c.args.name.now)) c.as_slice.result.now
    ∙ (ap (position (λ (p : Principal). is_same_name p.name c.args.name.now)) rows
    ∙ no_place c.args.self.now.state c.args.name.now h c.requires.absent)
