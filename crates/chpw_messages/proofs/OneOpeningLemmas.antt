-- A message opens to one answer.
use Rattle.std.proofs.Common.{◌≡◌, ℕ, List, Bool, true, Option, Some, None, option_map, Result, Ok, Err, refl, sym, ◌∙◌, ap, subst, false}
use Rattle.std.specs.Prelude.{◌==◌}
use Rattle.std.specs.declared.net.ip_addr.IpAddr.{IpAddr}
use Rattle.krb_keys.specs.Keys.{IsProtocolKey}
use Rattle.krb_codec.proofs.CompleteLemmas.{one_value}
use Rattle.krb_der.specs.Types.{change_passwd_data}
use Rattle.krb_der.specs.declared.principal_name.PrincipalName.{PrincipalName}
use Rattle.krb_msgs.specs.ApExchange.{OpensAp}
use Rattle.krb_msgs.specs.OneAnswer.{AreProtocolKeys, IsOne}
use Rattle.krb_msgs.specs.declared.private_message.Strictness.{Strictness}
use Rattle.krb_msgs.specs.declared.service_keys.ServiceKey.{ServiceKey}
use Rattle.krb_msgs.specs.declared.ap_exchange.ApOpened.{ApOpened}
use Rattle.krb_msgs.specs.declared.private_message.Private.{Private}
use Rattle.krb_msgs.specs.declared.fault.ApFault.{ApFault}
use Rattle.krb_msgs.specs.declared.fault.PrivFault.{PrivFault}
use Rattle.krb_msgs.proofs.OneAnswerLemmas.{ap_reqs_open_once, privs_open_once, subkey_is_key}
use Rattle.chpw_endpoints.specs.declared.endpoints.Endpoints.{Endpoints}
use Rattle.chpw_frame.specs.declared.change_data.ChangeData.{ChangeData}
use Rattle.chpw_frame.specs.declared.fault.FrameFault.{FrameFault}
use Rattle.chpw_frame.specs.Asked.{asks}
use Rattle.chpw_frame.specs.ChangeData.{change_value, Finds}
use Rattle.chpw_frame.specs.Framing.{ap_of, first_fault, old_request_version, request_versions, tail_of, version_of}
use Rattle.chpw_frame.proofs.ChangeLemmas.{asks_complete}
use Rattle.chpw_serve.specs.Requests.{Content, new_password, bad_private, bad_data, opened}
use Rattle.chpw_messages.specs.Opening.{Asks, IsContent, IsUserData, OpensAs, OpensFramed, OpensParts, request_of, stamp_in, target_in}
use Rattle.chpw_messages.specs.OneOpening.{MessagesOpenOnce}
use Rattle.chpw_messages.proofs.OldPasswordLemmas.{fields_of, fields_value, one_old_password}

-- ---- what is asked

one_asks : (password : List ℕ) (name : Option PrincipalName) (realm : Option (List ℕ)) → IsOne (Finds (asks password name realm))
one_asks password (Some name) realm one other h k = sym h ∙ k
one_asks password None None one other h k = sym h ∙ k
one_asks password None (Some realm) one other h k = absurd h

same_change : (one other : ChangeData) → change_value one ≡ change_value other → one ≡ other
same_change one other h =
    let fields = fields_of other in
    let value = fields_value other.password other.target in
    one_asks fields.newpasswd fields.targname fields.targrealm one other
    (asks_complete fields one (h ∙ value)) (asks_complete fields other value)

one_change : (realm bytes : List ℕ) → IsOne (Asks realm bytes)
one_change realm bytes (new_password target password) (new_password other_target other_password) h k =
    let value = one_value change_passwd_data refl bytes (change_value h.0) (change_value k.0) h.1 k.1 in
    let same = same_change h.0 k.0 value in
    let targets : target ≡ other_target = h.2 ∙ ap (λ (c : ChangeData). option_map (target_in realm) c.target) same ∙ sym k.2 in
    let passwords : password ≡ other_password = h.3 ∙ ap (λ (c : ChangeData). c.password) same ∙ sym k.3 in
    cc
one_change realm bytes (new_password target password) bad_data h k = absurd (k h.0 h.1)
one_change realm bytes (new_password target password) bad_private h k = absurd k
one_change realm bytes bad_data (new_password target password) h k = absurd (h k.0 k.1)
one_change realm bytes bad_data bad_data h k = refl
one_change realm bytes bad_data bad_private h k = absurd k
one_change realm bytes bad_private other h k = absurd h

one_said : (is_old : Bool) (realm bytes : List ℕ) → IsOne (IsUserData is_old realm bytes)
one_said true realm bytes one other h k = one_old_password bytes one other h k
one_said false realm bytes one other h k = one_change realm bytes one other h k

one_content : (realm : List ℕ) (version : ℕ) (private : Result Private PrivFault) → IsOne (IsContent realm version private)
one_content realm version (Ok p) one other h k = one_said (version == old_request_version) realm p.user_bytes one other h k
one_content realm version (Err fault) one other h k = h ∙ sym k

-- ---- the message

abbrev HasKey : Result ApOpened ApFault → Type 0
HasKey (Ok a) = IsProtocolKey a.subkey
HasKey (Err fault) = Unit {0}

has_key : (realm : List ℕ) (keys : List ServiceKey) (bytes : List ℕ) (peer : IpAddr) (a : Result ApOpened ApFault)
    → OpensAp realm keys bytes peer a → HasKey a
has_key realm keys bytes peer (Ok a) h = subkey_is_key realm keys bytes peer a h
has_key realm keys bytes peer (Err fault) h = tt

one_request : (strictness : Strictness) (local : IpAddr) (realm : List ℕ) (version : ℕ) (tail : List ℕ) (a : Result ApOpened ApFault) → HasKey a
    → IsOne (OpensAs strictness local realm version tail a)
one_request strictness local realm version tail (Err fault) is_key one other h k = h ∙ sym k
one_request strictness local realm version tail (Ok a) is_key one other h k =
    let private : h.0 ≡ k.0 = privs_open_once strictness local a.subkey a.seq_number tail is_key h.0 k.0 h.1 k.1 in
    let same_content : h.2.0 ≡ k.2.0 = one_content realm version k.0 h.2.0 k.2.0
    (subst (λ (p : Result Private PrivFault). IsContent realm version p h.2.0) private h.2.1) k.2.1 in
    h.2.2
    ∙ (ap (λ (p : Result Private PrivFault). opened (request_of local a (stamp_in p) h.2.0)) private
    ∙ (ap (λ (content : Content). opened (request_of local a (stamp_in k.0) content)) same_content
    ∙ sym k.2.2))

one_parts : (strictness : Strictness) (realm : List ℕ) (keys : List ServiceKey) (ends : Endpoints) (version : ℕ) (ap_req tail : List ℕ)
    → AreProtocolKeys keys → IsOne (OpensParts strictness realm keys ends version ap_req tail)
one_parts strictness realm keys ends version ap_req tail are one other h k =
    let same : h.0 ≡ k.0 = ap_reqs_open_once realm keys ap_req ends.peer are h.0 k.0 h.1 k.1 in
    one_request strictness ends.local realm version tail k.0 (has_key realm keys ap_req ends.peer k.0 k.1) one other
    (subst (λ (a : Result ApOpened ApFault). OpensAs strictness ends.local realm version tail a one) same h.2) k.2

one_framed : (strictness : Strictness) (realm : List ℕ) (keys : List ServiceKey) (ends : Endpoints) (bytes : List ℕ) (fault : Option FrameFault)
    → AreProtocolKeys keys → IsOne (OpensFramed strictness realm keys ends bytes fault)
one_framed strictness realm keys ends bytes (Some fault) are one other h k = h ∙ sym k
one_framed strictness realm keys ends bytes None are one other h k =
    one_parts strictness realm keys ends (version_of bytes) (ap_of bytes) (tail_of bytes) are one other h k

pub messages_open_once : MessagesOpenOnce
messages_open_once strictness realm keys ends bytes are =
    one_framed strictness realm keys ends bytes (first_fault request_versions false bytes) are
