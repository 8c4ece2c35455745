-- The part of an AP-REQ that is in the clear (RFC 4120 section 3.2.3): the request, and the service key of its ticket.
use Rattle.std.specs.Prelude.{◌≡◌, ◌⊎◌, true, ℕ, ℤ, pos, List, [], ◌∷◌, codes, Some, Result}
use Rattle.krb_keys.specs.declared.key.Key.{Key}
use Rattle.krb_protocol.specs.Numbers as protocol
use Rattle.krb_der.specs.Types.{ap_req}
use Rattle.krb_der.specs.Values.{ap_req_value}
use Rattle.krb_der.specs.declared.ap_req.ApReq.{ApReq}
use Rattle.krb_der.specs.declared.ticket.Ticket.{Ticket}
use Rattle.krb_der.specs.declared.encrypted_data.EncryptedData.{EncryptedData}
use Rattle.krb_codec.specs.BitStrings.{is_set}
use Rattle.krb_msgs.specs.Checks.{Held, Found, Then, Passed}
use Rattle.krb_msgs.specs.Parts.{Reads}
use Rattle.krb_msgs.specs.ServiceKeys.{service_key}
use Rattle.krb_msgs.specs.declared.service_keys.ServiceKey.{ServiceKey}
use Rattle.krb_msgs.specs.declared.fault.ApFault.{ApFault}
use Rattle.krb_msgs.specs.declared.fault.ApFault.TheVariants as fault

-- version 5, of the message and of the ticket
abbrev pub HasVersion : ApReq → Type 0
HasVersion request = (request.pvno ≡ protocol.pvno) × (request.ticket.tkt_vno ≡ protocol.pvno)

-- the option use-session-key (section 5.5.1)
abbrev pub UsesSessionKey : ApReq → Type 0
UsesSessionKey request = is_set request.ap_options.0 protocol.use_session_key ≡ true

-- kadmin/changepw (RFC 3244 section 2)
abbrev pub change_service : List (List ℕ)
change_service = codes "kadmin" ∷ codes "changepw" ∷ []

-- the ticket is for this service in this realm; name-types aren't compared
abbrev pub IsForUs : List ℕ → Ticket → Type 0
IsForUs realm ticket = (ticket.realm ≡ realm) × (ticket.sname.name_string ≡ change_service)

-- aes128-cts-hmac-sha1-96 or aes256-cts-hmac-sha1-96 (RFC 3962 section 7)
abbrev pub IsKnownEtype : ℤ → Type 0
IsKnownEtype etype = (etype ≡ pos 17) ⊎ (etype ≡ pos 18)

-- the service key that a part was sealed under
abbrev pub IsServiceKey : List ServiceKey → EncryptedData → Key → Type 0
IsServiceKey keys part key = service_key keys part.etype part.kvno ≡ Some key

unfoldable pub Presents : (realm : List ℕ) → List ServiceKey → (bytes : List ℕ)
    → Result (ApReq × Key) ApFault → Type 0
Presents realm keys bytes =
    Then (Reads ap_req ap_req_value bytes fault.Malformed) (λ (request : ApReq).
    Held (HasVersion request) fault.Version (
    Held (request.msg_type ≡ protocol.krb_ap_req) fault.MessageType (
    Held (UsesSessionKey request → ⊥) fault.UserToUser (
    Held (IsForUs realm request.ticket) fault.NotForUs (
    Held (IsKnownEtype request.ticket.enc_part.etype) fault.TicketEtype (
    Found (IsServiceKey keys request.ticket.enc_part) fault.NoServiceKey (λ key.
    Passed (request, key))))))))
