use Rattle.std.proofs.Common.{◌≡◌, ◌≤◌, true, find, length, ◌∙◌, ap, rules}
use Rattle.chpw_rules.specs.Names.{is_same_name}
use Rattle.chpw_table.specs.declared.table.Principal.{Principal}
use Rattle.chpw_table.specs.Holding.{hold_keys}
use Rattle.chpw_table.proofs.BoolLemmas.{and_right}
use Rattle.chpw_table.proofs.HoldingLemmas.{opening_hold, opening_few}
use Rattle.chpw_table.proofs.PlacingLemmas.{few_of}
use Rattle.chpw_table.proofs.SortingLemmas.{sorted_holders, found_permuted}
use Rattle.chpw_table.proofs.table.opening.opening_table.Goals as goal

pub overflow_sub-len : goal.overflow_sub-len
overflow_sub-len c =
    let h = sorted_holders c.in_ok-principals.principals.items _
    (rw c.in_ok-principals.ensures.value (opening_hold c.args.kept c.requires.kept.0 c.requires.kept.1 c.args.rows.items c.requires.fit))
    (rw c.in_ok-principals.ensures.value (opening_few c.args.kept c.args.rows.items c.requires.fit)) c.sort.ensures.permutation c.sort.ensures.sorted in
    let few : length c.sort.new.rows.items ≤ 10000 = few_of c.sort.new.rows.items h in
    search (rules, few)

pub returns-clause-holders : goal.returns-clause-holders
returns-clause-holders c =
    rw c.reserve.ensures.items (sorted_holders c.in_ok-principals.principals.items _
    (rw c.in_ok-principals.ensures.value (opening_hold c.args.kept c.requires.kept.0 c.requires.kept.1 c.args.rows.items c.requires.fit))
    (rw c.in_ok-principals.ensures.value (opening_few c.args.kept c.args.rows.items c.requires.fit)) c.sort.ensures.permutation c.sort.ensures.sorted)

pub returns-clause-found : goal.returns-clause-found
returns-clause-found c = λ name.
    let hold : hold_keys c.in_ok-principals.principals.items ≡ true = rw c.in_ok-principals.ensures.value
    (opening_hold c.args.kept c.requires.kept.0 c.requires.kept.1 c.args.rows.items c.requires.fit) in
    ap (find (λ (p : Principal). is_same_name p.name name)) c.reserve.ensures.items
    ∙ (found_permuted name c.in_ok-principals.principals.items _ c.sort.ensures.permutation (and_right _ _ hold)
    ∙ ap (find (λ (p : Principal). is_same_name p.name name)) c.in_ok-principals.ensures.value)
