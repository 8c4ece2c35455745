use Rattle.std.proofs.Common.{◌≡◌, List, ◌++◌, length, take, drop, sym, ◌∙◌, ap, subst, rules}
use Rattle.std.specs.List.Sorted.{IsStrictlySortedBy}
use Rattle.std.proofs.Math.Seq.{take-append_seam}
use Rattle.chpw_rules.specs.Names.{name_cmp}
use Rattle.chpw_snapshots.specs.declared.row.Row.{Row}
use Rattle.chpw_snapshots.specs.Rows.{names_of_rows, changed_at}
use Rattle.chpw_snapshots.proofs.RowLemmas.{names_changed, length_changed}
use Rattle.chpw_snapshots.proofs.rows.Rows.change_row.Goals as goal

pub invariant_of-self : goal.invariant_of-self
invariant_of-self c =
    let new : List Row = changed_at c.self.inside.kept c.args.change c.args.number c.as_mut_slice.result.now in
    let slice : c.as_mut_slice.result.now ≡ c.self.inside.rows.items = search rules in
    let names = names_changed c.self.inside.kept c.args.change c.args.number c.as_mut_slice.result.now ∙ ap names_of_rows slice in
    let behind : List Row = drop (length new) c.self.inside.rows.items in
    let count : c.self.inside.rows.len ≡ length c.self.inside.rows.items = search rules in
    let same : c.self.inside.rows.len ≡ length new = count ∙ ap length (sym slice)
    ∙ sym (length_changed c.self.inside.kept c.args.change c.args.number c.as_mut_slice.result.now) in
    let all : take c.self.inside.rows.len (new ++ behind) ≡ new = ap (λ n. take n (new ++ behind)) same ∙ take-append_seam new behind in (
      search rules,
      search rules,
      rw (c.change_at.ensures.value, all) (subst (IsStrictlySortedBy name_cmp) (sym names) c.self.invariant.2),
      c.self.invariant.3,
      c.self.invariant.4,
    )
