use Rattle.std.proofs.Common.{rules, refl}
use Rattle.krb_keys.specs.KeyUsages.{usage_ap_rep_enc_part}
use Rattle.krb_der.specs.Types.{ap_rep, enc_ap_rep_part}
use Rattle.krb_der.specs.Values.{ap_rep_value, enc_ap_rep_part_value}
use Rattle.krb_msgs.specs.declared.fault.ReplyFault.TheVariants as fault
use Rattle.krb_msgs.specs.Checks.{met, unmet, goes_on, stops}
use Rattle.krb_msgs.specs.Parts.{OpensPart, Reads}
use Rattle.krb_msgs.specs.Replies.{IsApRep, MatchesTime, OpensApRep}
use Rattle.krb_msgs.proofs.AnswerLemmas.{passes_on}
use Rattle.krb_msgs.proofs.reply.open_ap_rep.Goals as goal

pub returns-in_err-message : goal.returns-in_err-message
unfolding OpensApRep
returns-in_err-message c =
    passes_on (Reads ap_rep ap_rep_value c.args.bytes.now fault.Malformed)
    (OpensApRep c.args.session.now c.args.ctime c.args.cusec c.args.bytes.now)
    (λ f h. stops f h refl) c.in_err-message.field-0.0 _ c.from_residual.ensures.1 c.in_err-message.ensures

pub returns-then-not-is_ap_rep : goal.returns-then-not-is_ap_rep
unfolding OpensApRep
returns-then-not-is_ap_rep c =
    goes_on c.in_ok-message.message c.in_ok-message.ensures (unmet (λ h. let yes = c.is_ap_rep.ensures.1 h in search (rules, yes)) refl)

pub returns-in_err-part : goal.returns-in_err-part
unfolding OpensApRep
returns-in_err-part c =
    let m = c.in_ok-message.message in
    let is : IsApRep m = c.is_ap_rep.ensures.0 (search rules) in
    passes_on (OpensPart enc_ap_rep_part enc_ap_rep_part_value c.args.session.now usage_ap_rep_enc_part m.enc_part fault.NotSealed fault.Malformed)
    (OpensApRep c.args.session.now c.args.ctime c.args.cusec c.args.bytes.now)
    (λ f h. goes_on m c.in_ok-message.ensures (met is (stops f h refl)))
    c.in_err-part.field-0.0 _ c.from_residual-in_err-part.ensures.1 c.in_err-part.ensures

pub returns-then-not-matches_time : goal.returns-then-not-matches_time
unfolding OpensApRep
returns-then-not-matches_time c =
    let m = c.in_ok-message.message in
    let is : IsApRep m = c.is_ap_rep.ensures.0 (search rules) in
    goes_on m c.in_ok-message.ensures (met is (goes_on c.in_ok-part.part c.in_ok-part.ensures
    (unmet (λ h. let yes = c.matches_time.ensures.1 h in search (rules, yes)) refl)))

pub returns : goal.returns
unfolding OpensApRep
returns c =
    let m = c.in_ok-message.message in
    let part = c.in_ok-part.part in
    let is : IsApRep m = c.is_ap_rep.ensures.0 (search rules) in
    let answers : MatchesTime c.args.ctime c.args.cusec part = c.matches_time.ensures.0 (search rules) in
    goes_on m c.in_ok-message.ensures (met is (goes_on part c.in_ok-part.ensures (met answers refl)))
