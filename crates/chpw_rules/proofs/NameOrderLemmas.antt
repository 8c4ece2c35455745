-- The order of names, and what it says of sameness.
use Rattle.std.proofs.Common.{◌≡◌, sym, ◌∙◌}
use Rattle.std.specs.Cmp.{IsTotalOrder}
use Rattle.std.specs.Cmp.Lexicographic.{slice_cmp, lists_total, lists_ties, nat_list_cmp_total, texts_ties}
use Rattle.std.specs.Ordering.{eq_by_cmp, nat_cmp}
use Rattle.std.proofs.lemmas.Cmp.{on_total, eq_by_cmp_equiv}
use Rattle.chpw_rules.specs.declared.name.Name.{Name}
use Rattle.chpw_rules.specs.Names.{is_same_name, name_cmp}

pub names_total : IsTotalOrder name_cmp
names_total = on_total (λ (n : Name). n.parts) (lists_total nat_list_cmp_total)

-- names are the same where none comes before the other
pub same_name_ties : (a b : Name) → is_same_name a b ≡ eq_by_cmp name_cmp a b
same_name_ties a b = lists_ties (slice_cmp nat_cmp) texts_ties a.parts b.parts

pub same_name_turned : (a b : Name) → is_same_name a b ≡ is_same_name b a
same_name_turned a b = same_name_ties a b ∙ ((eq_by_cmp_equiv names_total).symm a b ∙ sym (same_name_ties b a))
