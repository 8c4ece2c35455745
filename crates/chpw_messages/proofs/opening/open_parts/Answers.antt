use Rattle.std.proofs.Common.{◌≡◌, Ok, Err, refl, sym, ap, subst}
use Rattle.krb_protocol.specs.Refusals.{Refusal}
use Rattle.krb_msgs.specs.declared.fault.ApFault.{ApFault}
use Rattle.krb_msgs.specs.Codes as fault
use Rattle.chpw_table.specs.Replies.{by_error}
use Rattle.chpw_serve.specs.declared.messages.Seal.{Seal}
use Rattle.chpw_serve.specs.Requests.{opened}
use Rattle.chpw_serve.specs.Holding.{IsReplyTime, answer_in}
use Rattle.chpw_messages.specs.Opening.{refused_by, request_of, stamp_in}
use Rattle.chpw_messages.proofs.OpenedLemmas.{reply_times}
use Rattle.chpw_messages.proofs.opening.open_parts.Goals as goal

pub returns-in-Err-Fault-clause-opening : goal.returns-in-Err-Fault-clause-opening
returns-in-Err-Fault-clause-opening c =
    let opens = rw c.in-Err-Fault.field-0-is at c.in-Err-Fault.ensures.opens in (
      refused_by (fault.refusal_of c.in-Err-Fault.fault),
      (Err c.in-Err-Fault.fault, opens, refl),
      subst (λ (f : ApFault). by_error (fault.refusal_of f).code (fault.refusal_of f).error (fault.refusal_of f).text ≡ answer_in c.refusal.result)
          c.in-Err-Fault.fault-is (ap (λ (r : Refusal). by_error r.code r.error r.text) (sym c.refusal.ensures.value)),
    )

pub returns-in_ok-open_request-in-Ok-clause-opening : goal.returns-in_ok-open_request-in-Ok-clause-opening
returns-in_ok-open_request-in-Ok-clause-opening c =
    let a = c.in-Ok.opened in
    let h = c.in_ok-content-in-Ok.ensures.content in
    let content = h.2.0 in (
      opened (request_of c.args.ends.local a (stamp_in h.0) content),
      (
        Ok a,
        c.in-Ok.ensures.opens,
        (h.0, h.1, (content, h.2.1, refl)),
      ),
      c.in_ok-open_request-in-Ok.ensures.value content (stamp_in h.0) h.2.2,
    )

pub returns-in_ok-open_request-in-Ok-clause-times : goal.returns-in_ok-open_request-in-Ok-clause-times
returns-in_ok-open_request-in-Ok-clause-times c =
    let h = c.in_ok-content-in-Ok.ensures.content in
    subst (λ (seal : Seal). IsReplyTime seal) (sym (c.in_ok-open_request-in-Ok.ensures.value h.2.0 (stamp_in h.0) h.2.2).2)
    (reply_times c.args.ends.local c.args.realm.now c.args.keys.now c.args.parts.ap.now c.args.ends.peer c.in-Ok.opened c.in-Ok.ensures.opens)
