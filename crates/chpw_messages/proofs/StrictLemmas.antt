-- What strict messages come to.
use Rattle.std.proofs.Common.{◌≡◌, ℕ, List, true, false, Option, Some, None, Result, Ok, Err, refl, sym, ◌∙◌, ap, subst, inl, inr}
use Rattle.std.specs.Prelude.{◌⊎◌}
use Rattle.std.specs.declared.net.ip_addr.IpAddr.{IpAddr}
use Rattle.krb_der.specs.declared.krb_priv.EncKrbPrivPart.{EncKrbPrivPart}
use Rattle.krb_msgs.specs.ApExchange.{OpensAp}
use Rattle.krb_msgs.specs.OneAnswer.{AreProtocolKeys}
use Rattle.krb_msgs.specs.PrivateMessages.{OpensPriv, meets}
use Rattle.krb_msgs.specs.StrictLaws.{HasPart, IsRefusedPart}
use Rattle.krb_msgs.specs.declared.ap_exchange.ApOpened.{ApOpened}
use Rattle.krb_msgs.specs.declared.fault.ApFault.{ApFault}
use Rattle.krb_msgs.specs.declared.fault.PrivFault.{PrivFault}
use Rattle.krb_msgs.specs.declared.fault.PrivFault.TheVariants as priv
use Rattle.krb_msgs.specs.declared.private_message.Private.{Private}
use Rattle.krb_msgs.specs.declared.private_message.Strictness.{Strictness}
use Rattle.krb_msgs.specs.declared.private_message.Strictness.TheVariants.{Lenient, Strict}
use Rattle.krb_msgs.specs.declared.service_keys.ServiceKey.{ServiceKey}
use Rattle.krb_msgs.proofs.OneAnswerLemmas.{ap_reqs_open_once, subkey_is_key}
use Rattle.krb_msgs.proofs.StrictLemmas.{loose_privs_are_refused, other_privs_open_alike, strict_privs_open}
use Rattle.chpw_endpoints.specs.declared.endpoints.Endpoints.{Endpoints}
use Rattle.chpw_frame.specs.declared.fault.FrameFault.{FrameFault}
use Rattle.chpw_frame.specs.Framing.{ap_of, first_fault, request_versions, tail_of, version_of}
use Rattle.chpw_serve.specs.Requests.{Content, Opens, Request, bad_private, opened}
use Rattle.chpw_messages.specs.Opening.{IsContent, OpensAs, OpensFramed, OpensParts, request_of, stamp_in}
use Rattle.chpw_messages.specs.StrictLaws.{LooseMessagesAreBadPrivate, OtherMessagesOpenAlike, StrictMessagesOpen}
use Rattle.chpw_messages.proofs.PrefixLemmas.{opened_has_none, opens_so, request_is}

-- ---- a part that isn't strict

of_refused : (local : IpAddr) (realm : List ℕ) (version : ℕ) (a : ApOpened) (r : Result Private PrivFault) (content : Content)
    → IsRefusedPart r → IsContent realm version r content
    → opened (request_of local a (stamp_in r) content) ≡ opened (request_of local a None bad_private)
of_refused local realm version a r content (inl is) h =
    let same : content ≡ bad_private = subst (λ (x : Result Private PrivFault). IsContent realm version x content) is h in
    ap (λ (x : Result Private PrivFault). opened (request_of local a (stamp_in x) content)) is
    ∙ ap (λ (c : Content). opened (request_of local a None c)) same
of_refused local realm version a r content (inr is) h =
    let same : content ≡ bad_private = subst (λ (x : Result Private PrivFault). IsContent realm version x content) is h in
    ap (λ (x : Result Private PrivFault). opened (request_of local a (stamp_in x) content)) is
    ∙ ap (λ (c : Content). opened (request_of local a None c)) same

loose_parts : (realm : List ℕ) (keys : List ServiceKey) (ends : Endpoints) (version : ℕ) (ap_req tail : List ℕ)
    (a : ApOpened) (part : EncKrbPrivPart) (o : Opens)
    → AreProtocolKeys keys → OpensAp realm keys ap_req ends.peer (Ok a) → HasPart a.subkey tail part
    → meets Strict ends.local a.seq_number part ≡ false → OpensParts Strict realm keys ends version ap_req tail o
    → o ≡ opened (request_of ends.local a None bad_private)
loose_parts realm keys ends version ap_req tail a part o are opens has loose h =
    let same : h.0 ≡ Ok a = ap_reqs_open_once realm keys ap_req ends.peer are h.0 (Ok a) h.1 opens in
    let is : OpensAs Strict ends.local realm version tail (Ok a) o =
    subst (λ (r : Result ApOpened ApFault). OpensAs Strict ends.local realm version tail r o) same h.2 in
    let is_key = subkey_is_key realm keys ap_req ends.peer a opens in
    let refused = loose_privs_are_refused ends.local a.subkey a.seq_number tail part is.0 is_key has loose is.1 in
    is.2.2 ∙ of_refused ends.local realm version a is.0 is.2.0 refused is.2.1

loose_framed : (realm : List ℕ) (keys : List ServiceKey) (ends : Endpoints) (bytes : List ℕ) (a : ApOpened) (part : EncKrbPrivPart) (o : Opens)
    (f : Option FrameFault)
    → AreProtocolKeys keys → f ≡ None → OpensAp realm keys (ap_of bytes) ends.peer (Ok a) → HasPart a.subkey (tail_of bytes) part
    → meets Strict ends.local a.seq_number part ≡ false → OpensFramed Strict realm keys ends bytes f o
    → o ≡ opened (request_of ends.local a None bad_private)
loose_framed realm keys ends bytes a part o (Some fault) are none opens has loose h = cc
loose_framed realm keys ends bytes a part o None are none opens has loose h =
    loose_parts realm keys ends (version_of bytes) (ap_of bytes) (tail_of bytes) a part o are opens has loose h

pub loose_messages_are_bad_private : LooseMessagesAreBadPrivate
loose_messages_are_bad_private realm keys ends bytes a part o are none opens has loose h =
    loose_framed realm keys ends bytes a part o (first_fault request_versions false bytes) are none opens has loose h

-- ---- what opens

either : (local : IpAddr) (realm : List ℕ) (version : ℕ) (tail : List ℕ) (a : ApOpened) (q : Request)
    (h : OpensAs Strict local realm version tail (Ok a) (opened q)) → (q.content ≡ bad_private → ⊥)
    → OpensPriv Lenient local a.subkey a.seq_number tail h.0 ⊎ (h.0 ≡ Err priv.Loose)
    → OpensAs Lenient local realm version tail (Ok a) (opened q)
either local realm version tail a q h other (inl lenient) = (h.0, lenient, h.2)
either local realm version tail a q h other (inr loose) =
    let same = request_is q (request_of local a (stamp_in h.0) h.2.0) h.2.2 in
    let bad : h.2.0 ≡ bad_private = subst (λ (x : Result Private PrivFault). IsContent realm version x h.2.0) loose h.2.1 in
    absurd (other (ap (λ (r : Request). r.content) same ∙ bad))

strict_as : (local : IpAddr) (realm : List ℕ) (version : ℕ) (tail : List ℕ) (a : Result ApOpened ApFault) (q : Request)
    → OpensAs Strict local realm version tail a (opened q) → (q.content ≡ bad_private → ⊥)
    → OpensAs Lenient local realm version tail a (opened q)
strict_as local realm version tail (Err fault) q h other = h
strict_as local realm version tail (Ok a) q h other =
    either local realm version tail a q h other (strict_privs_open local a.subkey a.seq_number tail h.0 h.1)

pub strict_messages_open : StrictMessagesOpen
strict_messages_open realm keys ends bytes q h other =
    let is = opened_has_none Strict realm keys ends bytes q _ refl h in
    let parts : OpensParts Lenient realm keys ends (version_of bytes) (ap_of bytes) (tail_of bytes) (opened q) =
    (is.1.0, is.1.1, strict_as ends.local realm (version_of bytes) (tail_of bytes) is.1.0 q is.1.2 other) in
    opens_so Lenient realm keys ends bytes (opened q) None is.0 parts

-- ---- the others

abbrev HasStrict : List ℕ → List ServiceKey → Endpoints → List ℕ → List ℕ → Type 0
HasStrict realm keys ends ap_req tail = (a : ApOpened) (part : EncKrbPrivPart)
    → OpensAp realm keys ap_req ends.peer (Ok a) → HasPart a.subkey tail part → meets Strict ends.local a.seq_number part ≡ true

alike_as : (realm : List ℕ) (keys : List ServiceKey) (ends : Endpoints) (version : ℕ) (ap_req tail : List ℕ)
    (a : Result ApOpened ApFault) (o : Opens)
    → HasStrict realm keys ends ap_req tail → OpensAp realm keys ap_req ends.peer a
    → (OpensAs Strict ends.local realm version tail a o → OpensAs Lenient ends.local realm version tail a o)
    × (OpensAs Lenient ends.local realm version tail a o → OpensAs Strict ends.local realm version tail a o)
alike_as realm keys ends version ap_req tail (Err fault) o all opens = (λ h. h, λ h. h)
alike_as realm keys ends version ap_req tail (Ok a) o all opens = (
  λ h. (h.0, (other_privs_open_alike ends.local a.subkey a.seq_number tail h.0 (λ part has. all a part opens has)).0 h.1, h.2),
  λ h. (h.0, (other_privs_open_alike ends.local a.subkey a.seq_number tail h.0 (λ part has. all a part opens has)).1 h.1, h.2),
)

alike_framed : (realm : List ℕ) (keys : List ServiceKey) (ends : Endpoints) (bytes : List ℕ) (o : Opens) (f : Option FrameFault)
    → HasStrict realm keys ends (ap_of bytes) (tail_of bytes)
    → (OpensFramed Strict realm keys ends bytes f o → OpensFramed Lenient realm keys ends bytes f o)
    × (OpensFramed Lenient realm keys ends bytes f o → OpensFramed Strict realm keys ends bytes f o)
alike_framed realm keys ends bytes o (Some fault) all = (λ h. h, λ h. h)
alike_framed realm keys ends bytes o None all = (
  λ h. (h.0, h.1, (alike_as realm keys ends (version_of bytes) (ap_of bytes) (tail_of bytes) h.0 o all h.1).0 h.2),
  λ h. (h.0, h.1, (alike_as realm keys ends (version_of bytes) (ap_of bytes) (tail_of bytes) h.0 o all h.1).1 h.2),
)

pub other_messages_open_alike : OtherMessagesOpenAlike
other_messages_open_alike realm keys ends bytes o all =
    alike_framed realm keys ends bytes o (first_fault request_versions false bytes) all
