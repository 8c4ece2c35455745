-- The texts of a request are those of its records.
use Rattle.std.proofs.Common.{◌≡◌, ◌∙◌, ℕ, true, List, refl, sym, subst}
use Rattle.krb_codec.specs.Texts.{fits, text}
use Rattle.krb_codec.proofs.TextLemmas.{text_spells}
use Rattle.krb_der.specs.Types as types
use Rattle.krb_der.specs.Values.{ap_req_value, krb_priv_value, ticket_value}
use Rattle.krb_der.specs.declared.authenticator.Authenticator.{Authenticator}
use Rattle.krb_der.specs.declared.enc_ticket_part.EncTicketPart.{EncTicketPart}
use Rattle.krb_der.specs.declared.krb_priv.EncKrbPrivPart.{EncKrbPrivPart}
use Rattle.krb_der.specs.declared.ticket.Ticket.{Ticket}
use Rattle.krb_keys.specs.declared.key.Key.{Key}
use Rattle.krb_msgs.specs.Making.{SpellsTicket, ap_req_of, priv_of, ticket_of, word_bytes}
use Rattle.chpw_client.specs.Questions.{Question}
use Rattle.chpw_client.specs.Requests.{ap_req_text, authenticator, bit, priv_text, private_part, ticket_part, ticket_text}
use Rattle.chpw_client.specs.Words.{drawn_key}
use Rattle.chpw_client.specs.declared.drawing.RequestWords.{RequestWords}
use Rattle.krb_protocol.specs.Numbers as protocol

-- the text of a ticket that fits spells it
pub ticket_taken : (made : Ticket) (bytes : List ℕ) → fits types.ticket (ticket_value made) ≡ true
    → bytes ≡ text types.ticket (ticket_value made) → SpellsTicket bytes made
ticket_taken made bytes fit is =
    subst (λ (z : List ℕ). SpellsTicket z made) (sym is) (text_spells types.ticket refl (ticket_value made) fit)

-- the ticket's text, by its parts
pub same_ticket : (q : Question) (w : RequestWords) (part : EncTicketPart) (c bytes : List ℕ) → part ≡ ticket_part q w → c ≡ word_bytes w.ticket
    → bytes ≡ text types.ticket (ticket_value (ticket_of q.realm part q.service c)) → bytes ≡ ticket_text q w
same_ticket q w part c bytes p words is = is ∙ rw (p, words) refl

-- the AP-REQ's text
pub same_request : (q : Question) (w : RequestWords) (t : Ticket) (a : Authenticator) (key : Key) (c bytes : List ℕ)
    → a ≡ authenticator q w → key ≡ drawn_key w.session → c ≡ word_bytes w.authenticator
    → bytes ≡ text types.ap_req (ap_req_value (ap_req_of t (bit protocol.mutual_required) a key c)) → bytes ≡ ap_req_text t q w
same_request q w t a key c bytes is_a is_key words is = is ∙ rw (is_a, is_key, words) refl

-- the KRB-PRIV's text
pub same_priv : (q : Question) (w : RequestWords) (part : EncKrbPrivPart) (key : Key) (c bytes : List ℕ)
    → part ≡ private_part q → key ≡ drawn_key w.subkey → c ≡ word_bytes w.private
    → bytes ≡ text types.krb_priv (krb_priv_value (priv_of part key c)) → bytes ≡ priv_text q w
same_priv q w part key c bytes is_part is_key words is = is ∙ rw (is_part, is_key, words) refl
