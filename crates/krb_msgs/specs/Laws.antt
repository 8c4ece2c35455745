-- What is made from a request or reply opens to it, for any confounders, kvnos of authenticator and KRB-PRIV, and
-- name-types.
use Rattle.std.specs.Prelude.{◌≡◌, ◌<◌, ◌^◌, ℕ, true, List, [], ◌++◌, length, Option, Some, None, Ok}
use Rattle.std.specs.Int.{to_be_bytes, w16}
use Rattle.std.specs.declared.net.ip_addr.IpAddr.{IpAddr}
use Rattle.krb_aes.specs.Bytes.{AreBytes}
use Rattle.krb_keys.specs.declared.key.Key.{Key}
use Rattle.krb_keys.specs.KeyUsages.{usage_ticket, usage_ap_req_authenticator, usage_ap_rep_enc_part, usage_krb_priv}
use Rattle.krb_codec.specs.Shapes.{Shape, Value}
use Rattle.krb_codec.specs.Grammar.{Spells}
use Rattle.krb_codec.specs.Texts.{text, fits}
use Rattle.krb_protocol.specs.Numbers as protocol
use Rattle.krb_der.specs.Types.{ap_req, ap_rep, enc_ticket_part, authenticator, enc_ap_rep_part, krb_priv, enc_krb_priv_part, krb_error}
use Rattle.krb_der.specs.Values.{ap_req_value, ap_rep_value, enc_ticket_part_value, authenticator_value}
use Rattle.krb_der.specs.Values.{enc_ap_rep_part_value, krb_priv_value, enc_krb_priv_part_value, krb_error_value}
use Rattle.krb_der.specs.declared.ap_req.ApReq.{ApReq}
use Rattle.krb_der.specs.declared.encrypted_data.EncryptedData.{EncryptedData}
use Rattle.krb_der.specs.declared.enc_ticket_part.EncTicketPart.{EncTicketPart}
use Rattle.krb_der.specs.declared.authenticator.Authenticator.{Authenticator}
use Rattle.krb_der.specs.declared.krb_priv.KrbPriv.{KrbPriv}
use Rattle.krb_der.specs.declared.krb_priv.EncKrbPrivPart.{EncKrbPrivPart}
use Rattle.krb_der.specs.declared.ap_rep.ApRep.{ApRep}
use Rattle.krb_der.specs.declared.ap_rep.EncApRepPart.{EncApRepPart}
use Rattle.krb_der.specs.declared.krb_error.KrbError.{KrbError}
use Rattle.krb_codec.specs.declared.kerberos_time.KerberosTime.{KerberosTime}
use Rattle.krb_codec.specs.declared.numbers.Microseconds.{Microseconds}
use Rattle.krb_codec.specs.declared.numbers.SeqNumber.{SeqNumber}
use Rattle.krb_msgs.specs.Parts.{sealed_part}
use Rattle.krb_msgs.specs.Presented.{HasVersion, IsForUs, IsServiceKey, UsesSessionKey}
use Rattle.krb_msgs.specs.Tickets.{IsKeyIn}
use Rattle.krb_msgs.specs.Accepted.{IsSameClient, IsSubkey, MayComeFrom, opened_of}
use Rattle.krb_msgs.specs.ApExchange.{OpensAp}
use Rattle.krb_msgs.specs.PrivateMessages.{IsPrivate, MayFollow, OpensPriv, meets, private_of}
use Rattle.krb_msgs.specs.Replies.{IsApRep, IsKrbError, OpensReply}
use Rattle.krb_msgs.specs.OneAnswer.{AreProtocolKeys}
use Rattle.krb_msgs.specs.declared.ap_exchange.ApOpened.{ApOpened}
use Rattle.krb_msgs.specs.declared.private_message.Strictness.{Strictness}
use Rattle.krb_msgs.specs.declared.service_keys.ServiceKey.{ServiceKey}

-- a part seals the text of a value that fits, whose bytes are bytes, under a confounder of 16 bytes
abbrev pub Seals : Key → ℕ → EncryptedData → (s : Shape) → Value s → Type 0
Seals key usage part s v =
    (confounder : List ℕ) × (kvno : Option ℕ)
    × (length confounder ≡ 16) × AreBytes confounder × (fits s v ≡ true) × AreBytes (text s v)
    × (part ≡ sealed_part key usage kvno confounder (text s v))

-- an AP-REQ for this service, made from a ticket's and an authenticator's records (section 3.2.2), from a peer that may
-- send it
pub record IsApReq (realm : List ℕ) (keys : List ServiceKey) (peer : IpAddr) (request : ApReq)
    (part : EncTicketPart) (a : Authenticator) (session subkey : Key) : Type 0 where
  pub fit : fits ap_req (ap_req_value request) ≡ true
  pub version : HasVersion request
  pub message_type : request.msg_type ≡ protocol.krb_ap_req
  pub own_ticket : UsesSessionKey request → ⊥
  pub ours : IsForUs realm request.ticket
  -- the ticket's part, under the service key that is chosen
  pub key : Key
  pub taken : IsServiceKey keys request.ticket.enc_part key
  pub ticket : Seals key usage_ticket request.ticket.enc_part enc_ticket_part (enc_ticket_part_value part)
  -- the authenticator, under the session key
  pub session_is : IsKeyIn part.key session
  pub sealed : Seals session usage_ap_req_authenticator request.authenticator
      authenticator (authenticator_value a)
  pub sealed_version : a.authenticator_vno ≡ protocol.pvno
  pub client : IsSameClient part a
  pub address : MayComeFrom peer part.caddr
  pub subkey_is : IsSubkey a.subkey subkey

-- its text opens to what the records say
abbrev pub ApReqsOpen : Type 0
ApReqsOpen = (realm : List ℕ) (keys : List ServiceKey) (peer : IpAddr) (request : ApReq)
    (part : EncTicketPart) (a : Authenticator) (session subkey : Key)
    → IsApReq realm keys peer request part a session subkey
    → OpensAp realm keys (text ap_req (ap_req_value request)) peer
    (Ok (opened_of part session a subkey))

-- a KRB-PRIV under the subkey, made from its part's record (section 3.5.1)
pub record IsKrbPriv (subkey : Key) (m : KrbPriv) (part : EncKrbPrivPart) : Type 0 where
  pub fit : fits krb_priv (krb_priv_value m) ≡ true
  pub private : IsPrivate m
  pub sealed : Seals subkey usage_krb_priv m.enc_part enc_krb_priv_part (enc_krb_priv_part_value part)

-- its text opens to what the record says, after an authenticator that it may follow, unless messages are strict and it
-- isn't
abbrev pub PrivsOpen : Type 0
PrivsOpen = (strictness : Strictness) (local : IpAddr) (subkey : Key) (seq_number : Option SeqNumber) (m : KrbPriv) (part : EncKrbPrivPart)
    → IsKrbPriv subkey m part → MayFollow seq_number part.seq_number → meets strictness local seq_number part ≡ true
    → OpensPriv strictness local subkey seq_number (text krb_priv (krb_priv_value m)) (Ok (private_of part))

-- Of an AP-REQ that opens, only the sealed parts and the service key count: two with the same ones open alike, whatever
-- else their bytes say.
abbrev pub ApReqsOpenAlike : Type 0
ApReqsOpenAlike = (realm : List ℕ) (keys : List ServiceKey) (peer : IpAddr) (bytes others : List ℕ) (request other : ApReq)
    (key : Key) (a b : ApOpened)
    → AreProtocolKeys keys
    → Spells ap_req bytes (ap_req_value request) → Spells ap_req others (ap_req_value other)
    → IsServiceKey keys request.ticket.enc_part key → IsServiceKey keys other.ticket.enc_part key
    → request.ticket.enc_part.cipher ≡ other.ticket.enc_part.cipher
    → request.authenticator.cipher ≡ other.authenticator.cipher
    → OpensAp realm keys bytes peer (Ok a) → OpensAp realm keys others peer (Ok b) → a ≡ b

-- A reply of AP-REP and KRB-PRIV, made from their parts' records, opens to the result code and text of its user-data,
-- for the sender of the authenticator whose time it repeats.
abbrev pub RepliesOpen : Type 0
RepliesOpen = (session subkey : Key) (m : ApRep) (part : EncApRepPart) (private : KrbPriv)
    (private_part : EncKrbPrivPart) (code : ℕ) (words : List ℕ)
    → fits ap_rep (ap_rep_value m) ≡ true → IsApRep m
    → Seals session usage_ap_rep_enc_part m.enc_part enc_ap_rep_part (enc_ap_rep_part_value part)
    → IsKrbPriv subkey private private_part
    → code < 2 ^ 16 → private_part.user_data ≡ to_be_bytes w16 code ++ words
    → OpensReply session subkey part.ctime part.cusec (text ap_rep (ap_rep_value m))
    (text krb_priv (krb_priv_value private))
    (Ok (record { code = code; text = words; error = None }))

-- a KRB-ERROR opens to the result code and text of its e-data, and its error code
abbrev pub ErrorsOpen : Type 0
ErrorsOpen = (session subkey : Key) (ctime : KerberosTime) (cusec : Microseconds) (m : KrbError)
    (code : ℕ) (words : List ℕ)
    → fits krb_error (krb_error_value m) ≡ true → IsKrbError m
    → code < 2 ^ 16 → m.e_data ≡ Some (to_be_bytes w16 code ++ words)
    → OpensReply session subkey ctime cusec [] (text krb_error (krb_error_value m))
    (Ok (record { code = code; text = words; error = Some m.error_code }))
