use Rattle.std.proofs.Common.{◌≡◌, [], Ok, Err, refl, ◌∙◌, ap, subst}
use Rattle.std.proofs.lemmas.Result.{IfOk-weaker}
use Rattle.krb_msgs.specs.declared.fault.PrivFault.{PrivFault}
use Rattle.krb_msgs.specs.declared.fault.PrivFault.TheVariants.{Loose, Malformed, NotSealed, WrongMessage, WrongSeqNumber}
use Rattle.chpw_table.specs.declared.request.Target.{Target}
use Rattle.chpw_serve.specs.Requests.{body_under, password_in}
use Rattle.chpw_messages.specs.declared.content.Content.{Content}
use Rattle.chpw_messages.specs.Opening.{content_despite}
use Rattle.chpw_messages.proofs.content.open_content.Goals as goal

no_password : (fault : PrivFault) → [] ≡ password_in (content_despite fault)
no_password Malformed = refl
no_password WrongMessage = refl
no_password NotSealed = refl
no_password WrongSeqNumber = refl
no_password Loose = refl

pub returns-in-Ok : goal.returns-in-Ok
returns-in-Ok c = record {
  content = IfOk-weaker c.read_content.result _ _ (λ h is. (Ok c.in-Ok.private, c.in-Ok.ensures.opens, (is.0, is.1, is.2))) c.read_content.ensures.content;
}

pub returns-in-Err-Fault : goal.returns-in-Err-Fault
returns-in-Err-Fault c =
    let opens = rw c.in-Err-Fault.field-0-is at c.in-Err-Fault.ensures.opens in
    let is = c.without_password.ensures.value in
    let body : (client : Target) → c.body_despite.result ≡ body_under [] client (content_despite c.in-Err-Fault.fault) =
    subst (λ (f : PrivFault). (client : Target) → c.body_despite.result
    ≡ body_under [] client (content_despite f)) c.in-Err-Fault.fault-is c.body_despite.ensures.value in
    record {
      content = (
        Err c.in-Err-Fault.fault,
        opens,
        (
          content_despite c.in-Err-Fault.fault,
          refl,
          (
            λ client. ap (λ (h : Content). h.body) is ∙ body client,
            ap (λ (h : Content). h.password) is ∙ no_password c.in-Err-Fault.fault,
            ap (λ (h : Content). h.stamp) is,
          ),
        ),
      );
    }
