use Rattle.std.proofs.Common.{◌≡◌, List, true, sym, subst, rules}
use Rattle.chpw_rules.specs.declared.config.PrincipalRow.{PrincipalRow}
use Rattle.chpw_rules.specs.Fitting.{are_distinct, is_same_principal}
use Rattle.chpw_reload.specs.Next.{next_config}
use Rattle.chpw_reload.proofs.OnceLemmas.{next_once}
use Rattle.chpw_reload.proofs.next.next_config.Goals as goal

pub returns-clause-once : goal.returns-clause-once
returns-clause-once c =
    let closed = c.args.closed.now.state in
    let renewed = c.args.renewed.now.state in
    let rows : c.of.result ≡ (next_config c.args.settings closed renewed).principals = search rules in
    subst (λ (rows : List PrincipalRow). are_distinct is_same_principal rows ≡ true)
    (sym rows) (next_once c.args.settings closed renewed c.know_order.ensures.order c.know_order-2.ensures.order)
