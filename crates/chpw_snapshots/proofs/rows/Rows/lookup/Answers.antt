use Rattle.std.proofs.Common.{◌≡◌, ◌≤◌, ◌∙◌, sym, ap, subst, Some}
use Rattle.std.specs.Prelude.{option_copied, All}
use Rattle.chpw_snapshots.specs.Rows.{Rowed, keys_in, all_rows}
use Rattle.chpw_snapshots.proofs.RowLemmas.{shown_positive}
use Rattle.chpw_snapshots.proofs.rows.Rows.lookup.Goals as goal

pub returns-in-Some-clause-positive : goal.returns-in-Some-clause-positive
returns-in-Some-clause-positive c positive =
    let found : keys_in (all_rows c.args.self.now) c.args.name.now ≡ Some c.in-Some.keys.now =
    sym c.keys_of.ensures.value ∙ ap (λ o. option_copied o) c.in-Some.is in
    let counts : All (λ n. 1 ≤ n) c.in-Some.keys.now.counts =
    shown_positive c.args.self.now.rows c.args.self.now.added c.args.name.now c.in-Some.keys.now positive.1 positive.2 found in
    let new : 1 ≤ c.self.inside.policy = subst (λ (r : Rowed). 1 ≤ r.policy) (sym c.self.view_is) positive.0 in
    rw (c.lookup_of.ensures.value) (new, counts)
