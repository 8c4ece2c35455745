use Rattle.std.proofs.Common.{rules, refl, sym, ◌∙◌, Some}
use Rattle.krb_der.specs.Types.{krb_error}
use Rattle.krb_der.specs.Values.{krb_error_value}
use Rattle.krb_msgs.specs.declared.fault.ReplyFault.TheVariants as fault
use Rattle.krb_msgs.specs.Checks.{met, unmet, of_one, of_none, goes_on, stops}
use Rattle.krb_msgs.specs.Parts.{Reads}
use Rattle.krb_msgs.specs.Replies.{IsKrbError, OpensError, SaysCode}
use Rattle.krb_msgs.proofs.AnswerLemmas.{passes_on, says}
use Rattle.krb_msgs.proofs.reply.open_error.Goals as goal

pub returns-in_err-message : goal.returns-in_err-message
unfolding OpensError
returns-in_err-message c =
    passes_on (Reads krb_error krb_error_value c.args.bytes.now fault.Malformed) (OpensError c.args.bytes.now)
    (λ f h. stops f h refl) c.in_err-message.field-0.0 _ c.from_residual.ensures.1 c.in_err-message.ensures

pub returns-then-not-is_krb_error : goal.returns-then-not-is_krb_error
unfolding OpensError
returns-then-not-is_krb_error c =
    goes_on c.in_ok-message.message c.in_ok-message.ensures (unmet (λ h. let yes = c.is_krb_error.ensures.1 h in search (rules, yes)) refl)

pub returns-in-Some : goal.returns-in-Some
unfolding OpensError
returns-in-Some c =
    let m = c.in_ok-message.message in
    let is : IsKrbError m = c.is_krb_error.ensures.0 (search rules) in
    let said = rw (c.as_slice.ensures.value, c.error_code_in.ensures) at c.reply_of.ensures in
    says (SaysCode c.in-Some.bytes (Some m.error_code)) (OpensError c.args.bytes.now)
    (λ answer h. goes_on m c.in_ok-message.ensures (met is (of_one c.in-Some.bytes c.in-Some.is h)))
    c.reply_of.result said

pub returns : goal.returns
unfolding OpensError
returns c =
    let m = c.in_ok-message.message in
    let is : IsKrbError m = c.is_krb_error.ensures.0 (search rules) in
    goes_on m c.in_ok-message.ensures (met is (of_none (λ d h. let none = sym c.in-None.is ∙ h in search (rules, none)) refl))
