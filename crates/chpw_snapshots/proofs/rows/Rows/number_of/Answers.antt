use Rattle.std.proofs.Common.{◌≡◌, sym, ◌∙◌, ap, rules}
use Rattle.std.specs.Prelude.{position}
use Rattle.std.specs.List.Sorted.{IsStrictlySortedBy}
use Rattle.std.specs.Ordering.{eq_by_cmp}
use Rattle.chpw_rules.specs.Names.{is_same_name, name_cmp}
use Rattle.chpw_table.proofs.OrderLemmas.{same_name_ties, position_alike}
use Rattle.chpw_snapshots.specs.declared.row.Row.{Row}
use Rattle.chpw_snapshots.specs.Rows.{names_of_rows}
use Rattle.chpw_snapshots.proofs.rows.Rows.number_of.Goals as goal

pub place_of-requires : goal.place_of-requires
place_of-requires c =
    let order : IsStrictlySortedBy name_cmp (names_of_rows c.self.inside.rows.items) = search rules in
    record { sorted = rw c.as_slice.ensures.value order }

pub returns : goal.returns
returns c =
    let rows : c.as_slice.result.now ≡ c.args.self.now.rows = search rules in
    record {
      value = c.place_of.ensures.value
          ∙ (position_alike (λ (r : Row). eq_by_cmp name_cmp r.name c.args.name.now)
          (λ (r : Row). is_same_name r.name c.args.name.now)
          (λ r. sym (same_name_ties r.name c.args.name.now)) c.as_slice.result.now
          ∙ ap (position (λ (r : Row). is_same_name r.name c.args.name.now)) rows);
    }
