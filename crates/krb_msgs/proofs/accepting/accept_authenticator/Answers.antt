use Rattle.std.proofs.Common.{rules, ◌≡◌, ap, refl, sym, ◌∙◌, true, Ok}
use Rattle.krb_msgs.specs.Checks.{met, unmet, of_one, of_none}
use Rattle.krb_msgs.specs.Accepted.{Accepts, IsSameClient, MayComeFrom}
use Rattle.krb_msgs.proofs.accepting.accept_authenticator.Goals as goal

pub returns-then-not-is_same_client-clause-value : goal.returns-then-not-is_same_client-clause-value
unfolding Accepts
returns-then-not-is_same_client-clause-value c = unmet (λ h. let yes = c.is_same_client.ensures.1 h in search (rules, yes)) refl

pub returns-then-not-may_come_from-clause-value : goal.returns-then-not-may_come_from-clause-value
unfolding Accepts
returns-then-not-may_come_from-clause-value c =
    let same : IsSameClient c.args.part c.args.authenticator = c.is_same_client.ensures.0 (search rules) in
    met same (unmet (λ h. let yes = c.may_come_from.ensures ∙ h in search (rules, yes)) refl)

pub returns-in-None-clause-value : goal.returns-in-None-clause-value
unfolding Accepts
returns-in-None-clause-value c =
    let same : IsSameClient c.args.part c.args.authenticator = c.is_same_client.ensures.0 (search rules) in
    let yes : c.may_come_from.result ≡ true = search rules in
    let from : MayComeFrom c.args.peer c.args.part.caddr = sym c.may_come_from.ensures ∙ yes in
    met same (met from (of_none (λ k h. let none = sym c.in-None.is ∙ (c.subkey_in.ensures k).1 h in search (rules, none)) refl))

pub returns-in-Some-clause-value : goal.returns-in-Some-clause-value
unfolding Accepts
returns-in-Some-clause-value c =
    let same : IsSameClient c.args.part c.args.authenticator = c.is_same_client.ensures.0 (search rules) in
    let yes : c.may_come_from.result ≡ true = search rules in
    let from : MayComeFrom c.args.peer c.args.part.caddr = sym c.may_come_from.ensures ∙ yes in
    met same (met from (of_one c.in-Some.subkey ((c.subkey_in.ensures c.in-Some.subkey).0 c.in-Some.is) (ap Ok c.opened_of.ensures)))
