use Rattle.std.proofs.Common.{rules, refl, None}
use Rattle.krb_keys.specs.KeyUsages.{usage_krb_priv}
use Rattle.krb_der.specs.Types.{krb_priv, enc_krb_priv_part}
use Rattle.krb_der.specs.Values.{krb_priv_value, enc_krb_priv_part_value}
use Rattle.krb_msgs.specs.declared.fault.ReplyFault.TheVariants as fault
use Rattle.krb_msgs.specs.Checks.{met, unmet, goes_on, stops}
use Rattle.krb_msgs.specs.Parts.{OpensPart, Reads}
use Rattle.krb_msgs.specs.PrivateMessages.{IsPrivate}
use Rattle.krb_msgs.specs.Replies.{OpensResult, SaysCode}
use Rattle.krb_msgs.proofs.AnswerLemmas.{passes_on, says}
use Rattle.krb_msgs.proofs.reply.open_result.Goals as goal

pub returns-in_err-message : goal.returns-in_err-message
unfolding OpensResult
returns-in_err-message c =
    passes_on (Reads krb_priv krb_priv_value c.args.bytes.now fault.Malformed) (OpensResult c.args.subkey.now c.args.bytes.now)
    (λ f h. stops f h refl) c.in_err-message.field-0.0 _ c.from_residual.ensures.1 c.in_err-message.ensures

pub returns-then-not-is_private : goal.returns-then-not-is_private
unfolding OpensResult
returns-then-not-is_private c =
    goes_on c.in_ok-message.message c.in_ok-message.ensures (unmet (λ h. let yes = c.is_private.ensures.1 h in search (rules, yes)) refl)

pub returns-in_err-part : goal.returns-in_err-part
unfolding OpensResult
returns-in_err-part c =
    let m = c.in_ok-message.message in
    let is : IsPrivate m = c.is_private.ensures.0 (search rules) in
    passes_on (OpensPart enc_krb_priv_part enc_krb_priv_part_value c.args.subkey.now usage_krb_priv m.enc_part fault.NotSealed fault.Malformed)
    (OpensResult c.args.subkey.now c.args.bytes.now)
    (λ f h. goes_on m c.in_ok-message.ensures (met is (stops f h refl)))
    c.in_err-part.field-0.0 _ c.from_residual-in_err-part.ensures.1 c.in_err-part.ensures

pub returns : goal.returns
unfolding OpensResult
returns c =
    let m = c.in_ok-message.message in
    let part = c.in_ok-part.part in
    let is : IsPrivate m = c.is_private.ensures.0 (search rules) in
    let said = rw c.as_slice.ensures.value at c.reply_of.ensures in
    says (SaysCode part.user_data None) (OpensResult c.args.subkey.now c.args.bytes.now)
    (λ answer h. goes_on m c.in_ok-message.ensures (met is (goes_on part c.in_ok-part.ensures h)))
    c.reply_of.result said
