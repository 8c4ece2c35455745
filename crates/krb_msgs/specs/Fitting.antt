-- Which messages fit: those whose parts are short enough, whatever the bytes of the ciphers.
use Rattle.std.specs.Prelude.{◌≡◌, ◌≤◌, ◌<◌, ◌^◌, ℕ, ◌+◌, pos, true, List, length, Ok}
use Rattle.std.specs.declared.net.ip_addr.IpAddr.{IpAddr}
use Rattle.krb_keys.specs.declared.key.Key.{Key}
use Rattle.krb_codec.specs.Shapes.{kerberos_time, microseconds}
use Rattle.krb_codec.specs.Texts.{text, fits, is_in_range}
use Rattle.krb_der.specs.Types as types
use Rattle.krb_der.specs.Types.{ap_rep, ap_req, authenticator, enc_ap_rep_part, enc_krb_priv_part, enc_ticket_part, krb_priv}
use Rattle.krb_der.specs.Values.{ap_rep_value, ap_req_value, authenticator_value, enc_ap_rep_part_value}
use Rattle.krb_der.specs.Values.{enc_krb_priv_part_value, enc_ticket_part_value, krb_priv_value, ticket_value}
use Rattle.krb_der.specs.declared.ap_rep.EncApRepPart.{EncApRepPart}
use Rattle.krb_der.specs.declared.authenticator.Authenticator.{Authenticator}
use Rattle.krb_der.specs.declared.enc_ticket_part.EncTicketPart.{EncTicketPart}
use Rattle.krb_der.specs.declared.krb_priv.EncKrbPrivPart.{EncKrbPrivPart}
use Rattle.krb_der.specs.declared.ticket.Ticket.{Ticket}
use Rattle.krb_msgs.specs.ApExchange.{OpensAp}
use Rattle.krb_msgs.specs.Making.{SpellsTicket, ap_rep_of, ap_req_of, priv_of, ticket_of}
use Rattle.krb_msgs.specs.declared.ap_exchange.ApOpened.{ApOpened}
use Rattle.krb_msgs.specs.declared.service_keys.ServiceKey.{ServiceKey}

-- the longest text of a part with which its message fits
abbrev pub longest_part : ℕ
longest_part = 65000

-- a ticket, its realm and its sealed part together
abbrev pub TicketsFit : Type 0
TicketsFit = (realm : List ℕ) (part : EncTicketPart) (service : ServiceKey)
    (confounder : List ℕ)
    → length confounder ≡ 16 → service.kvno < 2 ^ 32
    → length realm + length (text enc_ticket_part (enc_ticket_part_value part)) ≤ longest_part
    → fits types.ticket (ticket_value (ticket_of realm part service confounder)) ≡ true

-- a ticket has at most 300 bytes more than its realm and its sealed part together
abbrev pub TicketsAreShort : Type 0
TicketsAreShort = (realm : List ℕ) (part : EncTicketPart) (service : ServiceKey)
    (confounder : List ℕ)
    → length confounder ≡ 16
    → length (text types.ticket (ticket_value (ticket_of realm part service confounder)))
    ≤ length realm + length (text enc_ticket_part (enc_ticket_part_value part)) + 300

-- an AP-REQ, the text of its ticket and that of the authenticator together
abbrev pub ApReqsFit : Type 0
ApReqsFit = (made : Ticket) (t : Ticket) (options : ℕ) (a : Authenticator) (session : Key)
    (confounder : List ℕ)
    → length confounder ≡ 16 → options < 2 ^ 32
    → fits types.ticket (ticket_value made) ≡ true
    → SpellsTicket (text types.ticket (ticket_value made)) t
    → length (text types.ticket (ticket_value made))
    + length (text authenticator (authenticator_value a)) ≤ longest_part
    → fits ap_req (ap_req_value (ap_req_of t options a session confounder)) ≡ true

abbrev pub ApRepsFit : Type 0
ApRepsFit = (part : EncApRepPart) (session : Key) (confounder : List ℕ)
    → length confounder ≡ 16
    → length (text enc_ap_rep_part (enc_ap_rep_part_value part)) ≤ longest_part
    → fits ap_rep (ap_rep_value (ap_rep_of part session confounder)) ≡ true

abbrev pub PrivsFit : Type 0
PrivsFit = (part : EncKrbPrivPart) (subkey : Key) (confounder : List ℕ)
    → length confounder ≡ 16
    → length (text enc_krb_priv_part (enc_krb_priv_part_value part)) ≤ longest_part
    → fits krb_priv (krb_priv_value (priv_of part subkey confounder)) ≡ true

-- the client's time and microseconds, of an opened request, can be written again
abbrev pub OpenedTimesFit : Type 0
OpenedTimesFit = (realm : List ℕ) (keys : List ServiceKey) (bytes : List ℕ) (peer : IpAddr)
    (opened : ApOpened)
    → OpensAp realm keys bytes peer (Ok opened)
    → (is_in_range kerberos_time opened.ctime.0 ≡ true)
    × (is_in_range microseconds (pos opened.cusec.0) ≡ true)
