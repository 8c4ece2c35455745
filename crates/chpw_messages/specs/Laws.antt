-- What is made from a request opens to it, for any confounders, kvnos of authenticator and KRB-PRIV, and name-types.
use Rattle.std.specs.Prelude.{◌≡◌, ◌≤◌, ◌<◌, ◌^◌, ℕ, ◌+◌, ◌==◌, Bool, true, false, List, length, None, option_map}
use Rattle.std.specs.List.{list_any}
use Rattle.std.specs.declared.net.ip_addr.IpAddr.{IpAddr}
use Rattle.krb_keys.specs.declared.key.Key.{Key}
use Rattle.krb_codec.specs.Texts.{text, fits}
use Rattle.krb_der.specs.Types.{ap_req, krb_priv, change_passwd_data}
use Rattle.krb_der.specs.Values.{ap_req_value, krb_priv_value}
use Rattle.krb_der.specs.declared.ap_req.ApReq.{ApReq}
use Rattle.krb_der.specs.declared.enc_ticket_part.EncTicketPart.{EncTicketPart}
use Rattle.krb_der.specs.declared.authenticator.Authenticator.{Authenticator}
use Rattle.krb_der.specs.declared.krb_priv.KrbPriv.{KrbPriv}
use Rattle.krb_der.specs.declared.krb_priv.EncKrbPrivPart.{EncKrbPrivPart}
use Rattle.krb_msgs.specs.Laws.{IsApReq, IsKrbPriv}
use Rattle.krb_msgs.specs.Accepted.{opened_of}
use Rattle.krb_msgs.specs.PrivateMessages.{MayFollow, meets, private_of}
use Rattle.krb_msgs.specs.declared.service_keys.ServiceKey.{ServiceKey}
use Rattle.krb_msgs.specs.declared.private_message.Strictness.{Strictness}
use Rattle.chpw_endpoints.specs.declared.endpoints.Endpoints.{Endpoints}
use Rattle.chpw_frame.specs.declared.change_data.ChangeData.{ChangeData}
use Rattle.chpw_frame.specs.Framing.{framed, header_length, old_request_version, request_versions}
use Rattle.chpw_frame.specs.Stream.{longest}
use Rattle.chpw_frame.specs.ChangeData.{change_value}
use Rattle.chpw_serve.specs.Requests.{Opens, Request, opened, new_password}
use Rattle.chpw_messages.specs.OldPasswords.{NamesTarget}
use Rattle.chpw_messages.specs.Opening.{OpensParts, OpensTo, request_of, target_in}

-- User-data that asks for a change: in the earlier protocol the new password itself, with no target, which must not be
-- a ChangePasswdData with one; in the other its ChangePasswdData (RFC 3244 section 2).
abbrev pub SaysChange : Bool → List ℕ → ChangeData → Type 0
SaysChange true bytes change = (change.target ≡ None) × (bytes ≡ change.password) × (NamesTarget bytes → ⊥)
SaysChange false bytes change =
    (fits change_passwd_data (change_value change) ≡ true) × (bytes ≡ text change_passwd_data (change_value change))

-- a KRB-PRIV after this authenticator that asks for a change, in a request of this version
pub record AsksChange (strictness : Strictness) (local : IpAddr) (version : ℕ) (subkey : Key) (a : Authenticator) (m : KrbPriv) (part : EncKrbPrivPart)
    (change : ChangeData) : Type 0 where
  pub private : IsKrbPriv subkey m part
  pub follows : MayFollow a.seq_number part.seq_number
  pub strict : meets strictness local a.seq_number part ≡ true
  pub user_data : SaysChange (version == old_request_version) part.user_data change

-- what they ask for
abbrev pub asked_of : IpAddr → List ℕ → EncTicketPart → Key → Authenticator → Key → EncKrbPrivPart → ChangeData → Request
asked_of local realm ticket session a subkey part change =
    request_of local (opened_of ticket session a subkey) (private_of part).stamp
    (new_password (option_map (target_in realm) change.target) change.password)

-- the two open to that
abbrev pub PartsOpen : Type 0
PartsOpen = (strictness : Strictness) (version : ℕ) (realm : List ℕ) (keys : List ServiceKey) (ends : Endpoints) (request : ApReq)
    (ticket : EncTicketPart) (a : Authenticator) (session subkey : Key)
    (m : KrbPriv) (part : EncKrbPrivPart) (change : ChangeData)
    → IsApReq realm keys ends.peer request ticket a session subkey
    → AsksChange strictness ends.local version subkey a m part change
    → OpensParts strictness realm keys ends version
    (text ap_req (ap_req_value request)) (text krb_priv (krb_priv_value m))
    (opened (asked_of ends.local realm ticket session a subkey part change))

-- parts in a frame of an accepted version, as long as a frame may be, open as they do
abbrev pub FramesOpen : Type 0
FramesOpen = (strictness : Strictness) (version : ℕ) (realm : List ℕ) (keys : List ServiceKey) (ends : Endpoints) (ap tail : List ℕ) (o : Opens)
    → list_any (λ v. v == version) request_versions ≡ true → version < 2 ^ 16
    → 0 < length ap → header_length + length ap + length tail ≤ longest
    → OpensParts strictness realm keys ends version ap tail o
    → OpensTo strictness realm keys ends (framed version ap tail) o
