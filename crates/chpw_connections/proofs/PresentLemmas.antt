-- The ticket that an AP-REQ presents, by what was read of it.
use Rattle.std.proofs.Common.{◌≡◌, ◌∙◌, ◌↔◌, ℕ, List, map, Bool, true, false, Option, None, is_none, Result, Ok, Err, IfOk, IsTrue, ap, sym, subst, true≢false}
use Rattle.std.proofs.lemmas.List.{map-id}
use Rattle.krb_codec.specs.Grammar.{Spells}
use Rattle.krb_codec.specs.Reading.{Gives}
use Rattle.krb_codec.specs.Shapes.{Value}
use Rattle.krb_codec.specs.declared.fault.DerFault.{DerFault}
use Rattle.krb_codec.specs.declared.fault.ReadError.{ReadError}
use Rattle.krb_codec.specs.declared.fault.ReadError.TheVariants as errors
use Rattle.krb_der.specs.Types.{ap_req}
use Rattle.krb_der.specs.Values.{ap_req_value}
use Rattle.krb_der.specs.declared.ap_req.ApReq.{ApReq}
use Rattle.krb_msgs.specs.Presented.{IsForUs}
use Rattle.chpw_connections.specs.Senders.{IsAnswered, PresentsTicket, is_from_service, is_request}
use Rattle.chpw_connections.specs.declared.sender.Sender.{Sender}
use Rattle.chpw_frame.specs.Framing.{ap_of}

-- one value has one ticket
same_ticket : (a b : ApReq) (realm : List ℕ) → ap_req_value a ≡ ap_req_value b → IsForUs realm a.ticket → IsForUs realm b.ticket
same_ticket a b realm same ours =
    let realms : a.ticket.realm ≡ b.ticket.realm = ap (λ (v : Value ap_req). v.1.1.1.0.1.0) same in
    let names : map (λ (t : List ℕ). t) a.ticket.sname.name_string ≡ map (λ (t : List ℕ). t) b.ticket.sname.name_string =
    ap (λ (v : Value ap_req). v.1.1.1.0.1.1.0.1.0) same in
    (sym realms ∙ ours.0, sym (map-id b.ticket.sname.name_string) ∙ sym names ∙ map-id a.ticket.sname.name_string ∙ ours.1)

-- the AP-REQ that was read is the only one
pub presents_as : (realm text : List ℕ) (request : ApReq) (b : Bool) → Spells ap_req text (ap_req_value request)
    → ((v : Value ap_req) → Spells ap_req text v → Gives ap_req_value (Ok request) (Ok v))
    → (IsTrue b ↔ IsForUs realm request.ticket) → (IsTrue b ↔ PresentsTicket realm text)
presents_as realm text request b spelled found is = (
  λ yes. record { request = request; spelled = spelled; ours = is.0 yes },
  λ presents.
      let alike = found (ap_req_value presents.request) presents.spelled in
      let same : ap_req_value presents.request ≡ ap_req_value request = cc in
      is.1 (same_ticket presents.request request realm same presents.ours),
)

-- bytes that are none present none
pub presents_none : (realm text : List ℕ) (r : Result ApReq ReadError) (f : DerFault) → r ≡ Err (errors.Fault f)
    → ((v : Value ap_req) → Spells ap_req text v → Gives ap_req_value r (Ok v)) → (IsTrue false ↔ PresentsTicket realm text)
presents_none realm text r f is found = (
  λ yes. absurd (true≢false (sym yes)),
  λ presents.
      let alike : Gives ap_req_value (Err (errors.Fault f)) (Ok (ap_req_value presents.request)) =
      subst (λ (r : Result ApReq ReadError). Gives ap_req_value r (Ok (ap_req_value presents.request))) is
      (found (ap_req_value presents.request) presents.spelled) in
      absurd cc,
)

-- what isn't from a service, and is a whole frame, is answered for its ticket
pub answered_for : {E : Type 0} → (own_port : ℕ) (realm : List ℕ) (sender : Sender) (message text : List ℕ) (r : Result Bool E)
    → is_from_service own_port sender ≡ false → is_request message ≡ true → text ≡ ap_of message
    → IfOk r (λ b. IsTrue b ↔ PresentsTicket realm text) → IfOk r (λ b. IsTrue b ↔ IsAnswered own_port realm sender message)
answered_for own_port realm sender message text (Ok b) client framed is presents = (
  λ yes. record { client = client; framed = framed; presents = subst (PresentsTicket realm) is (presents.0 yes) },
  λ answered. presents.1 (subst (PresentsTicket realm) (sym is) answered.presents),
)
answered_for own_port realm sender message text (Err e) client framed is presents = tt
