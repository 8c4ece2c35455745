use Rattle.std.proofs.Common.{ℕ, List, max, map, find, refl, ◌∙◌, ap, arith, rules}
use Rattle.std.specs.Prelude.{pos, option_map}
use Rattle.std.specs.List.{list_any}
use Rattle.chpw_rules.specs.declared.config.PrincipalRow.{PrincipalRow}
use Rattle.chpw_rules.specs.Names.{is_same_name}
use Rattle.chpw_table.specs.declared.request.RequestId.{RequestId}
use Rattle.chpw_table.specs.declared.table.Principal.{Principal}
use Rattle.chpw_table.specs.Requests.{is_same_id}
use Rattle.chpw_table.specs.State.{opening_principal}
use Rattle.chpw_table.proofs.HoldingLemmas.{kept_at_least, depth_at_most, entries_of_fits, policy_of_fits, principals_of_fits, iterations_in_range}
use Rattle.chpw_table.proofs.HeldIdLemmas.{none_held}
use Rattle.chpw_table.proofs.table.Table.start.Goals as goal

pub opening_table-requires-clause-fit : goal.opening_table-requires-clause-fit
opening_table-requires-clause-fit c = rw c.into_vec.ensures.value (principals_of_fits c.args.config c.requires.fits)

pub opening_table-requires-clause-kept : goal.opening_table-requires-clause-kept
opening_table-requires-clause-kept c =
    rw c.kept_by-kept.ensures.value (
      kept_at_least c.args.config.policy.depth,
      depth_at_most c.args.config.policy (policy_of_fits c.args.config c.requires.fits),
    )

pub invariant_of-result : goal.invariant_of-result
invariant_of-result c =
    let none = none_held (pos 0) c.new.result c.new.ensures.empty in
    let count = iterations_in_range c.args.config.policy (policy_of_fits c.args.config c.requires.fits) in (
      omega arith,
      omega arith,
      entries_of_fits c.args.config c.requires.fits,
      search rules,
      search rules,
      search rules,
      omega (arith, none.0),
      none.1,
      none.2,
      count,
      search rules,
    )

pub returns-clause-opening : goal.returns-clause-opening
returns-clause-opening c = record {
  fixed = search rules;
  principals = λ name. ap (option_map (λ (p : Principal). p.keys))
      (c.in_ok-principals.ensures.found name
      ∙ (ap (λ (k : ℕ). find (λ (p : Principal). is_same_name p.name name) (map (opening_principal k) c.into_vec.result.items)) c.kept_by-kept.ensures.value
      ∙ ap (λ (rows : List PrincipalRow). find (λ (p : Principal). is_same_name p.name name)
      (map (opening_principal (max c.args.config.policy.depth 1)) rows)) c.into_vec.ensures.value));
  clock = refl;
  broken = refl;
  count = refl;
  ids = λ id h. ap (list_any (λ (x : RequestId). is_same_id x id)) c.new.ensures.empty;
}
