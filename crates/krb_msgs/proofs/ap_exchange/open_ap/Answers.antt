use Rattle.std.proofs.Common.{refl}
use Rattle.krb_msgs.specs.Checks.{goes_on, stops}
use Rattle.krb_msgs.specs.Presented.{Presents}
use Rattle.krb_msgs.specs.Tickets.{OpensTicket}
use Rattle.krb_msgs.specs.Authenticators.{OpensAuthenticator}
use Rattle.krb_msgs.specs.Accepted.{Accepts}
use Rattle.krb_msgs.specs.ApExchange.{OpensAp}
use Rattle.krb_msgs.proofs.AnswerLemmas.{passes_on, says}
use Rattle.krb_msgs.proofs.ap_exchange.open_ap.Goals as goal

pub returns-in_err-request : goal.returns-in_err-request
unfolding OpensAp
returns-in_err-request c = record {
  opens =
      passes_on (Presents c.args.realm.now c.args.keys.now c.args.ap_req.now)
      (OpensAp c.args.realm.now c.args.keys.now c.args.ap_req.now c.args.peer)
      (λ f h. stops f h refl) c.in_err-request.field-0.0 _ c.from_residual.ensures.1 c.in_err-request.ensures;
}

pub returns-in_err-part : goal.returns-in_err-part
unfolding OpensAp
returns-in_err-part c =
    let r = c.in_ok-request.request in
    let key = c.in_ok-request.key in record {
      opens =
          passes_on (OpensTicket key r.ticket.enc_part) (OpensAp c.args.realm.now c.args.keys.now c.args.ap_req.now c.args.peer)
          (λ f h. goes_on (r, key) c.in_ok-request.ensures (stops f h refl))
          c.in_err-part.field-0.0 _ c.from_residual-in_err-part.ensures.1 c.in_err-part.ensures;
    }

pub returns-in_err-authenticator : goal.returns-in_err-authenticator
unfolding OpensAp
returns-in_err-authenticator c =
    let r = c.in_ok-request.request in
    let key = c.in_ok-request.key in
    let session = c.in_ok-part.session in record {
      opens =
          passes_on (OpensAuthenticator session r.authenticator) (OpensAp c.args.realm.now c.args.keys.now c.args.ap_req.now c.args.peer)
          (λ f h. goes_on (r, key) c.in_ok-request.ensures (goes_on (c.in_ok-part.part, session) c.in_ok-part.ensures (stops f h refl)))
          c.in_err-authenticator.field-0.0 _ c.from_residual-in_err-authenticator.ensures.1 c.in_err-authenticator.ensures;
    }

pub returns : goal.returns
unfolding OpensAp
returns c =
    let r = c.in_ok-request.request in
    let key = c.in_ok-request.key in
    let part = c.in_ok-part.part in
    let session = c.in_ok-part.session in
    let a = c.in_ok-authenticator.authenticator in record {
      opens =
          says (Accepts c.args.peer part session a) (OpensAp c.args.realm.now c.args.keys.now c.args.ap_req.now c.args.peer)
          (λ answer h. goes_on (r, key) c.in_ok-request.ensures (goes_on (part, session) c.in_ok-part.ensures (goes_on a c.in_ok-authenticator.ensures h)))
          c.accept_authenticator.result c.accept_authenticator.ensures.value;
    }
