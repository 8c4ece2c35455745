use Rattle.std.proofs.Common.{rules, refl}
use Rattle.krb_keys.specs.KeyUsages.{usage_ap_req_authenticator}
use Rattle.krb_der.specs.Types.{authenticator}
use Rattle.krb_der.specs.Values.{authenticator_value}
use Rattle.krb_msgs.specs.declared.fault.ApFault.TheVariants as fault
use Rattle.krb_msgs.specs.Checks.{met, unmet, goes_on, stops}
use Rattle.krb_msgs.specs.Parts.{OpensPart}
use Rattle.krb_msgs.specs.Authenticators.{OpensAuthenticator}
use Rattle.krb_msgs.proofs.AnswerLemmas.{passes_on}
use Rattle.krb_msgs.proofs.authenticators.open_authenticator.Goals as goal

pub returns-in_err-authenticator : goal.returns-in_err-authenticator
unfolding OpensAuthenticator
returns-in_err-authenticator c =
    passes_on (OpensPart authenticator authenticator_value
    c.args.session.now usage_ap_req_authenticator c.args.sealed fault.BadAuthenticator fault.BadAuthenticator)
    (OpensAuthenticator c.args.session.now c.args.sealed) (λ f h. stops f h refl)
    c.in_err-authenticator.field-0.0 _ c.from_residual.ensures.1 c.in_err-authenticator.ensures

pub returns-then-authenticator-ne-PVNO : goal.returns-then-authenticator-ne-PVNO
unfolding OpensAuthenticator
returns-then-authenticator-ne-PVNO c = goes_on c.in_ok-authenticator.authenticator c.in_ok-authenticator.ensures (unmet (λ h. search (rules, h)) refl)

pub returns : goal.returns
unfolding OpensAuthenticator
returns c = goes_on c.in_ok-authenticator.authenticator c.in_ok-authenticator.ensures (met (search rules) refl)
