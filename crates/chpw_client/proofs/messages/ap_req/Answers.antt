use Rattle.std.proofs.Common.{rules, ◌≡◌, ◌≤◌, ◌<◌, length, List, ℕ, subst, sym, ◌∙◌}
use Rattle.std.proofs.lemmas.Result.{IfOk-weaker}
use Rattle.krb_codec.specs.Texts.{text}
use Rattle.krb_protocol.specs.Numbers as protocol
use Rattle.krb_der.specs.Types as types
use Rattle.krb_der.specs.Values.{ap_req_value}
use Rattle.krb_der.specs.declared.ticket.Ticket.{Ticket}
use Rattle.krb_msgs.specs.Making.{SpellsTicket, ap_req_of}
use Rattle.chpw_client.specs.Questions.{Question, question_of}
use Rattle.chpw_client.specs.Requests.{ap_req_text, bit, longest_ap_req, ticket, ticket_text}
use Rattle.chpw_client.specs.declared.drawing.RequestWords.{RequestWords}
use Rattle.chpw_client.proofs.FittingLemmas.{HasSizes, ap_req_fits, ap_req_short, ap_req_some, authenticator_fits, ticket_fits, ticket_part_fits}
use Rattle.chpw_client.proofs.RequestLemmas.{same_request, same_ticket, ticket_taken}
use Rattle.chpw_client.proofs.messages.ap_req.Goals as goal

pub make_ticket-requires-clause-part : goal.make_ticket-requires-clause-part
make_ticket-requires-clause-part c =
    let w : RequestWords = c.args.words.now in
    let sizes : HasSizes w = search rules in
    rw c.in_ok-part.ensures.value (ticket_part_fits (question_of c.args.asked.now) w c.requires.askable sizes)

pub make_ticket-requires-clause-message : goal.make_ticket-requires-clause-message
make_ticket-requires-clause-message c =
    let w : RequestWords = c.args.words.now in
    let sizes : HasSizes w = search rules in
    rw (c.in_ok-part.ensures.value, c.word_bytes.ensures.value)
    (ticket_fits (question_of c.args.asked.now) w c.requires.askable sizes)

pub make_ap_req-requires-clause-ticket : goal.make_ap_req-requires-clause-ticket
make_ap_req-requires-clause-ticket c =
    let q : Question = question_of c.args.asked.now in
    let w : RequestWords = c.args.words.now in
    let sizes : HasSizes w = search rules in
    let is = same_ticket q w c.in_ok-part.part c.word_bytes.result c.deref.result.now c.in_ok-part.ensures.value c.word_bytes.ensures.value
    (c.deref.ensures.value ∙ c.in_ok-ticket.ensures.text) in
    (ticket q w, ticket_taken (ticket q w) c.deref.result.now (ticket_fits q w c.requires.askable sizes) is)

pub make_ap_req-requires-clause-part : goal.make_ap_req-requires-clause-part
make_ap_req-requires-clause-part c =
    let w : RequestWords = c.args.words.now in
    let sizes : HasSizes w = search rules in
    rw c.in_ok-authenticator.ensures.value (authenticator_fits (question_of c.args.asked.now) w c.requires.askable sizes)

pub make_ap_req-requires-clause-message : goal.make_ap_req-requires-clause-message
make_ap_req-requires-clause-message c = λ t spelled.
    let q : Question = question_of c.args.asked.now in
    let w : RequestWords = c.args.words.now in
    let sizes : HasSizes w = search rules in
    let is = same_ticket q w c.in_ok-part.part c.word_bytes.result c.deref.result.now c.in_ok-part.ensures.value c.word_bytes.ensures.value
    (c.deref.ensures.value ∙ c.in_ok-ticket.ensures.text) in
    rw (c.in_ok-authenticator.ensures.value, c.drawn_key.ensures.value, c.word_bytes-2.ensures.value)
    (ap_req_fits q w t c.requires.askable sizes (subst (λ (z : List ℕ). SpellsTicket z t) is spelled))

pub returns : goal.returns
returns c =
    let q : Question = question_of c.args.asked.now in
    let w : RequestWords = c.args.words.now in
    let sizes : HasSizes w = search rules in
    let is : c.deref.result.now ≡ ticket_text q w =
    same_ticket q w c.in_ok-part.part c.word_bytes.result c.deref.result.now c.in_ok-part.ensures.value c.word_bytes.ensures.value
    (c.deref.ensures.value ∙ c.in_ok-ticket.ensures.text) in
    let made : Ticket → List ℕ = λ t. text types.ap_req
    (ap_req_value (ap_req_of t (bit protocol.mutual_required) c.in_ok-authenticator.authenticator c.drawn_key.result c.word_bytes-2.result)) in
    let same : (t : Ticket) (bytes : List ℕ) → bytes ≡ made t → bytes ≡ ap_req_text t q w = λ t bytes is.
    same_request q w t c.in_ok-authenticator.authenticator c.drawn_key.result c.word_bytes-2.result bytes
    c.in_ok-authenticator.ensures.value c.drawn_key.ensures.value c.word_bytes-2.ensures.value is in
    record {
      text = IfOk-weaker c.make_ap_req.result _ _
          (λ v h. (h.0, subst (λ (z : List ℕ). SpellsTicket z h.0) is h.1, same h.0 _ h.2)) c.make_ap_req.ensures.text;
      some = IfOk-weaker c.make_ap_req.result _ _
          (λ v h. subst (λ (b : List ℕ). 0 < length b) (sym (same h.0 _ h.2)) (ap_req_some q w h.0)) c.make_ap_req.ensures.text;
      short = IfOk-weaker c.make_ap_req.result _ _
          (λ v h. subst (λ (b : List ℕ). length b ≤ longest_ap_req) (sym (same h.0 _ h.2))
          (ap_req_short q w h.0 c.requires.askable sizes (subst (λ (z : List ℕ). SpellsTicket z h.0) is h.1))) c.make_ap_req.ensures.text;
    }
