-- The request that a client sends (RFC 3244 section 2): an AP-REQ with a ticket of its own making, and a KRB-PRIV with
-- the new password. In the earlier protocol the user-data is the new password itself
-- (draft-ietf-cat-kerb-chg-password-02 section 3).
use Rattle.std.specs.Prelude.{◌≡◌, ◌^◌, ◌-◌, ℕ, ◌+ℤ◌, pos, List, [], ◌∷◌, Some, None, option_map, if◌then◌else◌}
use Rattle.std.specs.declared.net.ip_addr.IpAddr.{IpAddr}
use Rattle.std.specs.declared.net.ip_addr.IpAddr.TheVariants.{V4}
use Rattle.krb_codec.specs.Texts.{text}
use Rattle.krb_protocol.specs.Numbers as protocol
use Rattle.krb_der.specs.Types as types
use Rattle.krb_der.specs.Values.{ap_req_value, change_passwd_data_value, krb_priv_value, ticket_value}
use Rattle.krb_der.specs.declared.authenticator.Authenticator.{Authenticator}
use Rattle.krb_der.specs.declared.change_passwd_data.ChangePasswdData.{ChangePasswdData}
use Rattle.krb_der.specs.declared.enc_ticket_part.EncTicketPart.{EncTicketPart}
use Rattle.krb_der.specs.declared.encrypted_data.EncryptionKey.{EncryptionKey}
use Rattle.krb_der.specs.declared.krb_priv.EncKrbPrivPart.{EncKrbPrivPart}
use Rattle.krb_der.specs.declared.principal_name.PrincipalName.{PrincipalName}
use Rattle.krb_der.specs.declared.ticket.Ticket.{Ticket}
use Rattle.krb_msgs.specs.Making.{SpellsTicket, ap_req_of, priv_of, priv_part_of, ticket_of, word_bytes}
use Rattle.chpw_frame.specs.Framing.{framed, old_request_version, request_version}
use Rattle.chpw_rules.specs.declared.name.Name.{Name}
use Rattle.chpw_client.specs.Questions.{Question}
use Rattle.chpw_client.specs.Words.{drawn_key}
use Rattle.chpw_client.specs.declared.drawing.RequestWords.{RequestWords}
use Rattle.chpw_client.specs.declared.request.SentRequest.{SentRequest}

-- ---- the records

abbrev pub principal : Name → PrincipalName
principal name = record { name_type = protocol.nt_principal; name_string = name.parts }

abbrev pub sent_key : List ℕ → EncryptionKey
sent_key words = record { keytype = pos 18; keyvalue = word_bytes words }

-- bit n of 32, where bit 0 is the highest
abbrev pub bit : ℕ → ℕ
bit n = 2 ^ (31 - n)

-- seconds for which a ticket is good
abbrev pub lifetime : ℕ
lifetime = 3600

abbrev pub ticket_part : Question → RequestWords → EncTicketPart
ticket_part q w = record {
  flags = record { 0 = if q.initial then bit protocol.ticket_initial else 0 };
  key = sent_key w.session;
  crealm = q.realm;
  cname = principal q.client;
  transited = record { tr_type = pos 0; contents = [] };
  authtime = record { 0 = q.now.seconds };
  starttime = None;
  endtime = record { 0 = q.now.seconds +ℤ pos lifetime };
  renew_till = None;
  caddr = None;
  authorization_data = None;
}

abbrev pub authenticator : Question → RequestWords → Authenticator
authenticator q w = record {
  authenticator_vno = protocol.pvno;
  crealm = q.realm;
  cname = principal q.client;
  cksum = None;
  cusec = record { 0 = q.now.micros };
  ctime = record { 0 = q.now.seconds };
  subkey = Some (sent_key w.subkey);
  seq_number = Some (record { 0 = 0 });
  authorization_data = None;
}

-- a target is in the service's realm
abbrev pub change : Question → ChangePasswdData
change q = record {
  newpasswd = q.password;
  targname = option_map principal q.target;
  targrealm = option_map (λ n. q.realm) q.target;
}

-- ---- the messages

abbrev pub version : Question → ℕ
version q = if q.old then old_request_version else request_version

abbrev pub user_data : Question → List ℕ
user_data q = if q.old then q.password else text types.change_passwd_data (change_passwd_data_value (change q))

-- 127.0.0.1: the client is on the service's host
abbrev pub loopback : IpAddr
loopback = V4 (record { octets = 127 ∷ 0 ∷ 0 ∷ 1 ∷ [] })

abbrev pub private_part : Question → EncKrbPrivPart
private_part q = priv_part_of loopback (user_data q) 0

abbrev pub ticket : Question → RequestWords → Ticket
ticket q w = ticket_of q.realm (ticket_part q w) q.service (word_bytes w.ticket)

abbrev pub ticket_text : Question → RequestWords → List ℕ
ticket_text q w = text types.ticket (ticket_value (ticket q w))

-- with this ticket and the option mutual-required
abbrev pub ap_req_text : Ticket → Question → RequestWords → List ℕ
ap_req_text t q w = text types.ap_req (ap_req_value (ap_req_of t (bit protocol.mutual_required)
    (authenticator q w) (drawn_key w.session) (word_bytes w.authenticator)))

abbrev pub priv_text : Question → RequestWords → List ℕ
priv_text q w = text types.krb_priv (krb_priv_value
    (priv_of (private_part q) (drawn_key w.subkey) (word_bytes w.private)))

-- The most bytes of both, with the longest names, realm and password: with six more they are no longer than a message
-- may be.
abbrev pub longest_ap_req : ℕ
longest_ap_req = 3700

abbrev pub longest_krb_priv : ℕ
longest_krb_priv = 61800

-- the message with a ticket that the ticket's text spells, and what its reply is read with
pub record IsRequest (q : Question) (w : RequestWords) (sent : SentRequest) : Type 0 where
  pub message : (t : Ticket) × SpellsTicket (ticket_text q w) t
      × (sent.message ≡ framed (version q) (ap_req_text t q w) (priv_text q w))
  pub session : sent.session ≡ drawn_key w.session
  pub subkey : sent.subkey ≡ drawn_key w.subkey
  pub ctime : sent.ctime.0 ≡ q.now.seconds
  pub cusec : sent.cusec.0 ≡ q.now.micros
