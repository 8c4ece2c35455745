-- What a message to the service opens to (RFC 3244 section 2, RFC 4120 sections 3.2.3 and 3.5.2): the
-- frame, the AP-REQ, the KRB-PRIV and its user-data in turn. The version of the frame says how user-data
-- is read, and nothing else.
use Rattle.std.specs.Prelude.{◌≡◌, ℕ, ℤ, List, Bool, true, false, ◌==◌, Option, Some, None, Result, Ok, Err, option_map, unwrap_or}
use Rattle.std.specs.declared.net.ip_addr.IpAddr.{IpAddr}
use Rattle.krb_codec.specs.BitStrings.{is_set}
use Rattle.krb_protocol.specs.Numbers as protocol
use Rattle.krb_protocol.specs.Refusals.{Refusal}
use Rattle.krb_der.specs.declared.principal_name.PrincipalName.{PrincipalName}
use Rattle.krb_msgs.specs.declared.service_keys.ServiceKey.{ServiceKey}
use Rattle.krb_msgs.specs.declared.ap_exchange.ApOpened.{ApOpened}
use Rattle.krb_msgs.specs.declared.private_message.Private.{Private}
use Rattle.krb_msgs.specs.declared.private_message.Strictness.{Strictness}
use Rattle.krb_msgs.specs.declared.fault.ApFault.{ApFault}
use Rattle.krb_msgs.specs.declared.fault.PrivFault.{PrivFault}
use Rattle.krb_msgs.specs.declared.fault.PrivFault.TheVariants as priv
use Rattle.krb_msgs.specs.ApExchange.{OpensAp}
use Rattle.krb_msgs.specs.PrivateMessages.{OpensPriv}
use Rattle.krb_msgs.specs.Codes as ap
use Rattle.chpw_endpoints.specs.declared.endpoints.Endpoints.{Endpoints}
use Rattle.chpw_frame.specs.declared.change_data.ChangeData.{ChangeData}
use Rattle.chpw_frame.specs.declared.change_data.ChangeTarget.{ChangeTarget}
use Rattle.chpw_frame.specs.declared.fault.FrameFault.{FrameFault}
use Rattle.chpw_frame.specs.Framing.{old_request_version, request_versions, first_fault, version_of, ap_of, tail_of}
use Rattle.chpw_frame.specs.ChangeData.{IsChange}
use Rattle.chpw_frame.specs.Faults as frame
use Rattle.chpw_rules.specs.declared.name.Name.{Name}
use Rattle.chpw_table.specs.declared.request.Target.{Target}
use Rattle.chpw_table.specs.Replies.{by_error}
use Rattle.chpw_serve.specs.declared.messages.Seal.{Seal}
use Rattle.chpw_serve.specs.Requests.{Content, new_password, bad_private, bad_data, Request, Opens, refused, opened}
use Rattle.chpw_messages.specs.OldPasswords.{IsOldPassword}

-- ---- the new password

-- the components; the name-type is no part of a name
abbrev pub name_in : PrincipalName → Name
name_in name = record { parts = name.name_string }

-- a target without a realm is in the service's
abbrev pub target_in : List ℕ → ChangeTarget → Target
target_in realm target = record { realm = unwrap_or target.realm realm; name = name_in target.name }

-- a ChangePasswdData, or bytes that are none
abbrev pub Asks : List ℕ → List ℕ → Content → Type 0
Asks realm bytes (new_password target password) =
    (change : ChangeData) × IsChange bytes change × (target ≡ option_map (target_in realm) change.target) × (password ≡ change.password)
Asks realm bytes bad_data = (change : ChangeData) → IsChange bytes change → ⊥
Asks realm bytes bad_private = ⊥

-- in the earlier protocol the new password itself, unless that names a target; otherwise a ChangePasswdData
abbrev pub IsUserData : Bool → List ℕ → List ℕ → Content → Type 0
IsUserData true realm bytes content = IsOldPassword bytes content
IsUserData false realm bytes content = Asks realm bytes content

-- the user-data of a request of this version
abbrev pub IsAsked : List ℕ → ℕ → List ℕ → Content → Type 0
IsAsked realm version bytes content = IsUserData (version == old_request_version) realm bytes content

-- ---- the KRB-PRIV

-- the content of one that doesn't open
abbrev pub content_despite : PrivFault → Content
content_despite priv.Malformed = bad_data
content_despite priv.WrongMessage = bad_private
content_despite priv.NotSealed = bad_private
content_despite priv.WrongSeqNumber = bad_private
content_despite priv.Loose = bad_private

abbrev pub IsContent : List ℕ → ℕ → Result Private PrivFault → Content → Type 0
IsContent realm version (Ok p) content = IsAsked realm version p.user_bytes content
IsContent realm version (Err fault) content = content ≡ content_despite fault

-- the timestamp of one that opened
abbrev pub stamp_in : Result Private PrivFault → Option ℤ
stamp_in (Ok p) = p.stamp
stamp_in (Err fault) = None

-- ---- the AP-REQ

-- the keys and times that the reply is made with
abbrev pub seal_of : IpAddr → ApOpened → Seal
seal_of local a = record { session = a.session; subkey = a.subkey; ctime = a.ctime.0; cusec = a.cusec.0; address = local }

abbrev pub request_of : IpAddr → ApOpened → Option ℤ → Content → Request
request_of local a stamp content = record {
  crealm = a.crealm;
  client = name_in a.cname;
  initial = is_set a.flags.0 protocol.ticket_initial;
  invalid = is_set a.flags.0 protocol.ticket_invalid;
  starts = a.starts.0;
  ends = a.ends.0;
  ctime = a.ctime.0;
  cusec = a.cusec.0;
  stamp = stamp;
  seal = seal_of local a;
  content = content;
}

-- refused by a KRB-ERROR
abbrev pub refused_by : Refusal → Opens
refused_by r = refused (by_error r.code r.error r.text)

abbrev pub OpensAs : Strictness → IpAddr → List ℕ → ℕ → List ℕ → Result ApOpened ApFault → Opens → Type 0
OpensAs strictness local realm version tail (Err fault) o = o ≡ refused_by (ap.refusal_of fault)
OpensAs strictness local realm version tail (Ok a) o =
    (private : Result Private PrivFault) × OpensPriv strictness local a.subkey a.seq_number tail private
    × ((content : Content) × IsContent realm version private content × (o ≡ opened (request_of local a (stamp_in private) content)))

-- ---- the message

abbrev pub OpensParts : Strictness → List ℕ → List ServiceKey → Endpoints → ℕ → List ℕ → List ℕ → Opens → Type 0
OpensParts strictness realm keys ends version ap_req tail o =
    (a : Result ApOpened ApFault) × OpensAp realm keys ap_req ends.peer a × OpensAs strictness ends.local realm version tail a o

-- what a message opens to whose frame has this first fault, or none
abbrev pub OpensFramed : Strictness → List ℕ → List ServiceKey → Endpoints → List ℕ → Option FrameFault → Opens → Type 0
OpensFramed strictness realm keys ends bytes (Some fault) o = o ≡ refused_by (frame.refusal_of fault)
OpensFramed strictness realm keys ends bytes None o =
    OpensParts strictness realm keys ends (version_of bytes) (ap_of bytes) (tail_of bytes) o

-- arguments: whether messages are strict, the service's realm and keys, the peer's address, the message
abbrev pub OpensTo : Strictness → List ℕ → List ServiceKey → Endpoints → List ℕ → Opens → Type 0
OpensTo strictness realm keys ends bytes o =
    OpensFramed strictness realm keys ends bytes (first_fault request_versions false bytes) o
