-- A set in the earlier protocol changes no key.
use Rattle.std.proofs.Common.{◌≡◌, ℕ, List, ◌∷◌, Bool, true, false, Option, Some, None, option_map, Result, Ok, Err, refl, sym, ◌∙◌, ap, subst}
use Rattle.std.specs.Prelude.{◌==◌, ◌||◌, ◌&&◌, int_le, if◌then◌else◌}
use Rattle.std.specs.List.{list_any}
use Rattle.std.specs.Option.{is_some}
use Rattle.std.specs.declared.net.ip_addr.IpAddr.{IpAddr}
use Rattle.krb_codec.specs.declared.numbers.SeqNumber.{SeqNumber}
use Rattle.krb_keys.specs.declared.key.Key.{Key}
use Rattle.krb_msgs.specs.ApExchange.{OpensAp}
use Rattle.krb_msgs.specs.OneAnswer.{AreProtocolKeys}
use Rattle.krb_msgs.specs.PrivateMessages.{OpensPriv}
use Rattle.krb_msgs.specs.declared.ap_exchange.ApOpened.{ApOpened}
use Rattle.krb_msgs.specs.declared.fault.ApFault.{ApFault}
use Rattle.krb_msgs.specs.declared.fault.PrivFault.{PrivFault}
use Rattle.krb_msgs.specs.declared.fault.PrivFault.TheVariants as priv
use Rattle.krb_msgs.specs.declared.private_message.Private.{Private}
use Rattle.krb_msgs.specs.declared.private_message.Strictness.{Strictness}
use Rattle.krb_msgs.specs.declared.service_keys.ServiceKey.{ServiceKey}
use Rattle.krb_msgs.proofs.OneAnswerLemmas.{ap_reqs_open_once, privs_open_once, subkey_is_key}
use Rattle.chpw_endpoints.specs.declared.endpoints.Endpoints.{Endpoints}
use Rattle.chpw_frame.specs.declared.change_data.ChangeTarget.{ChangeTarget}
use Rattle.chpw_frame.specs.declared.fault.FrameFault.{FrameFault}
use Rattle.chpw_frame.specs.Framing.{ap_length_of, ap_of, first_fault, is_past_end, is_whole, tail_of, version_of}
use Rattle.chpw_frame.specs.Framing.{old_request_version, request_version, request_versions}
use Rattle.chpw_frame.proofs.FramingLemmas.{cleared}
use Rattle.chpw_table.specs.Requests.{id_of}
use Rattle.chpw_table.specs.State.{State, is_used}
use Rattle.chpw_table.specs.Step.{step}
use Rattle.chpw_table.specs.Times.{clock_at, is_far, is_later, is_stale}
use Rattle.chpw_table.specs.declared.times.Moment.{Moment}
use Rattle.chpw_table.specs.declared.request.Target.{Target}
use Rattle.chpw_table.specs.declared.verdict.Verdict.TheVariants.{Skew, Replay, NotYet, Expired, BadPrivate, BadBody, Done}
use Rattle.chpw_table.proofs.StepLemmas.{refusal_keeps_keys}
use Rattle.chpw_serve.specs.Requests.{Content, Opens, Request, bad_data, bad_private, new_password, opened, opened_under}
use Rattle.chpw_messages.specs.ChangedVersions.{ChangesNoKey, FlippedSetsAreBadData, FlippedSetsChangeNoKey, IsTargeted, SetsAreTargeted, with_version}
use Rattle.chpw_messages.specs.OldPasswords.{IsOldPassword, NamesTarget}
use Rattle.chpw_messages.specs.Opening.{Asks, IsContent, content_despite, OpensAs, OpensFramed, OpensParts, OpensTo, request_of, stamp_in, target_in}
use Rattle.chpw_messages.specs.Versions.{OpensUnless, refuses}
use Rattle.chpw_messages.proofs.OldPasswordLemmas.{change_names, named_is_bad}
use Rattle.chpw_messages.proofs.PrefixLemmas.{opened_has_none, opens_so, request_is}

-- ---- the decision

none_is_done : (far used early late private : Bool)
    → (if far then Skew else if used then Replay else if early then NotYet
    else if late then Expired else if private then BadPrivate else BadBody) ≡ Done → ⊥
none_is_done true used early late private h = cc
none_is_done false true early late private h = cc
none_is_done false false true late private h = cc
none_is_done false false false true private h = cc
none_is_done false false false false true h = cc
none_is_done false false false false false h = cc

bad_data_keeps : (q : Request) (s : State) (now : Moment) (counts : List ℕ) (io : Bool)
    → (step s now (opened_under counts (record q { content = bad_data })) io).principals ≡ s.principals
bad_data_keeps q s now counts io =
    let o = opened_under counts (record q { content = bad_data }) in
    let clock = clock_at s now in
    refusal_keeps_keys s now o io
    (none_is_done (is_far clock o.ctime || int_le o.ctime s.fixed.quiet_until) (is_used s (id_of o))
    (is_later o.starts clock || o.invalid) (is_later clock o.ends) (is_stale clock o.stamp))

pub bad_data_changes_none : (q : Request) → ChangesNoKey (opened (record q { content = bad_data }))
bad_data_changes_none q = (refl, λ s now counts io. bad_data_keeps q s now counts io)

-- ---- the parts

-- what they open to in the earlier protocol, if their user-data names a target
set_parts : (strictness : Strictness) (realm : List ℕ) (keys : List ServiceKey) (ends : Endpoints) (ap_req tail : List ℕ)
    (a : ApOpened) (p : Private) (o : Opens)
    → AreProtocolKeys keys → OpensAp realm keys ap_req ends.peer (Ok a) → OpensPriv strictness ends.local a.subkey a.seq_number tail (Ok p)
    → NamesTarget p.user_bytes → OpensParts strictness realm keys ends old_request_version ap_req tail o
    → o ≡ opened (request_of ends.local a p.stamp bad_data)
set_parts strictness realm keys ends ap_req tail a p o are opens private named h =
    let same : h.0 ≡ Ok a = ap_reqs_open_once realm keys ap_req ends.peer are h.0 (Ok a) h.1 opens in
    let is : OpensAs strictness ends.local realm old_request_version tail (Ok a) o =
    subst (λ (r : Result ApOpened ApFault). OpensAs strictness ends.local realm old_request_version tail r o) same h.2 in
    let is_key = subkey_is_key realm keys ap_req ends.peer a opens in
    let second : is.0 ≡ Ok p = privs_open_once strictness ends.local a.subkey a.seq_number tail is_key is.0 (Ok p) is.1 private in
    let content : IsOldPassword p.user_bytes is.2.0 =
    subst (λ (r : Result Private PrivFault). IsContent realm old_request_version r is.2.0) second is.2.1 in
    is.2.2
    ∙ (ap (λ (r : Result Private PrivFault). opened (request_of ends.local a (stamp_in r) is.2.0)) second
    ∙ ap (λ (c : Content). opened (request_of ends.local a p.stamp c)) (named_is_bad p.user_bytes is.2.0 named content))

-- what they open to in whichever version has this AP-REQ and this KRB-PRIV
request_parts : (strictness : Strictness) (realm : List ℕ) (keys : List ServiceKey) (ends : Endpoints) (version : ℕ) (ap_req tail : List ℕ)
    (a : ApOpened) (p : Private) (q : Request)
    → AreProtocolKeys keys → OpensAp realm keys ap_req ends.peer (Ok a) → OpensPriv strictness ends.local a.subkey a.seq_number tail (Ok p)
    → OpensParts strictness realm keys ends version ap_req tail (opened q)
    → record q { content = bad_data } ≡ request_of ends.local a p.stamp bad_data
request_parts strictness realm keys ends version ap_req tail a p q are opens private h =
    let same : h.0 ≡ Ok a = ap_reqs_open_once realm keys ap_req ends.peer are h.0 (Ok a) h.1 opens in
    let is : OpensAs strictness ends.local realm version tail (Ok a) (opened q) =
    subst (λ (r : Result ApOpened ApFault). OpensAs strictness ends.local realm version tail r (opened q)) same h.2 in
    let is_key = subkey_is_key realm keys ap_req ends.peer a opens in
    let second : is.0 ≡ Ok p = privs_open_once strictness ends.local a.subkey a.seq_number tail is_key is.0 (Ok p) is.1 private in
    let first = request_is q (request_of ends.local a (stamp_in is.0) is.2.0) is.2.2 in
    ap (λ (r : Request). record r { content = bad_data }) first
    ∙ ap (λ (r : Result Private PrivFault). request_of ends.local a (stamp_in r) bad_data) second

-- ---- the message

abbrev flipped : List ℕ → List ℕ
flipped bytes = with_version old_request_version bytes

of_framed : (strictness : Strictness) (realm : List ℕ) (keys : List ServiceKey) (ends : Endpoints) (bytes : List ℕ) (o : Opens) (f : Option FrameFault)
    → first_fault request_versions false (flipped bytes) ≡ f → AreProtocolKeys keys → IsTargeted strictness realm keys ends bytes
    → OpensFramed strictness realm keys ends (flipped bytes) f o → ChangesNoKey o
of_framed strictness realm keys ends bytes o (Some fault) e are set h = subst ChangesNoKey (sym h) tt
of_framed strictness realm keys ends (hi ∷ lo ∷ c ∷ d ∷ e ∷ f ∷ rest) o None is are set h =
    let bytes : List ℕ = hi ∷ lo ∷ c ∷ d ∷ e ∷ f ∷ rest in
    let q = request_of ends.local set.0 set.2.0.stamp bad_data in
    subst ChangesNoKey
    (sym (set_parts strictness realm keys ends (ap_of bytes) (tail_of bytes) set.0 set.2.0 o are set.1 set.2.1 set.2.2 h))
    (bad_data_changes_none q)
of_framed strictness realm keys ends bytes o None is are set h = cc

under : (strictness : Strictness) (realm : List ℕ) (keys : List ServiceKey) (ends : Endpoints) (bytes : List ℕ) (o : Opens) (b : Bool)
    → AreProtocolKeys keys → IsTargeted strictness realm keys ends bytes → OpensUnless strictness b realm keys ends (flipped bytes) o → ChangesNoKey o
under strictness realm keys ends bytes o true are set h = subst ChangesNoKey (sym h) tt
under strictness realm keys ends bytes o false are set h = of_framed strictness realm keys ends bytes o _ refl are set h

pub flipped_sets_change_no_key : FlippedSetsChangeNoKey
flipped_sets_change_no_key accepts realm keys ends bytes o are set h =
    under accepts.messages realm keys ends bytes o (refuses accepts.versions (flipped bytes)) are set h

-- a message without a fault has none in the other version
no_fault : (bytes : List ℕ) → first_fault request_versions false bytes ≡ None → first_fault request_versions false (flipped bytes) ≡ None
no_fault (hi ∷ lo ∷ c ∷ d ∷ e ∷ f ∷ rest) none =
    let bytes : List ℕ = hi ∷ lo ∷ c ∷ d ∷ e ∷ f ∷ rest in
    let clear = cleared (is_whole bytes) (list_any (λ (v : ℕ). v == version_of bytes) request_versions)
    ((true && (ap_length_of bytes == 0)) || is_past_end bytes) none in
    rw (clear.0, clear.2) refl
no_fault bytes none = cc

same_parts : (strictness : Strictness) (realm : List ℕ) (keys : List ServiceKey) (ends : Endpoints) (bytes : List ℕ) (o : Opens)
    → first_fault request_versions false bytes ≡ None
    → OpensParts strictness realm keys ends old_request_version (ap_of bytes) (tail_of bytes) o
    → OpensFramed strictness realm keys ends (flipped bytes) None o
same_parts strictness realm keys ends (hi ∷ lo ∷ c ∷ d ∷ e ∷ f ∷ rest) o none h = h
same_parts strictness realm keys ends bytes o none h = cc

pub flipped_sets_are_bad_data : FlippedSetsAreBadData
flipped_sets_are_bad_data strictness realm keys ends bytes q are set h =
    let is = opened_has_none strictness realm keys ends bytes q _ refl h in
    let a : ApOpened = set.0 in
    let p : Private = set.2.0 in
    let same = request_parts strictness realm keys ends (version_of bytes) (ap_of bytes) (tail_of bytes) a p q are set.1 set.2.1 is.1 in
    let parts : OpensParts strictness realm keys ends old_request_version (ap_of bytes) (tail_of bytes) (opened (request_of ends.local a p.stamp bad_data)) = (
      Ok a,
      set.1,
      (Ok p, set.2.1, (bad_data, set.2.2, refl)),
    ) in
    subst (λ (r : Request). OpensTo strictness realm keys ends (flipped bytes) (opened r)) (sym same)
    (opens_so strictness realm keys ends (flipped bytes) _ None (no_fault bytes is.0) (same_parts strictness realm keys ends bytes _ is.0 parts))

-- ---- requests that ask for a target's new password

abbrev asked_target : Content → Option Target
asked_target (new_password target password) = target
asked_target bad_private = None
asked_target bad_data = None

some_named : (realm : List ℕ) (named : Option ChangeTarget) (target : Target)
    → option_map (target_in realm) named ≡ Some target → is_some named ≡ true
some_named realm (Some named) target h = refl
some_named realm None target h = cc

asked_names : (realm bytes : List ℕ) (content : Content) (target : Target)
    → asked_target content ≡ Some target → Asks realm bytes content → NamesTarget bytes
asked_names realm bytes (new_password named password) target is h =
    change_names bytes h.0 h.1 (some_named realm h.0.target target (sym h.2 ∙ is))
asked_names realm bytes bad_data target is h = cc
asked_names realm bytes bad_private target is h = absurd h

despite_none : (fault : PrivFault) → asked_target (content_despite fault) ≡ None
despite_none priv.Malformed = refl
despite_none priv.WrongMessage = refl
despite_none priv.NotSealed = refl
despite_none priv.WrongSeqNumber = refl
despite_none priv.Loose = refl

private_set : (strictness : Strictness) (local : IpAddr) (realm : List ℕ) (subkey : Key) (seq_number : Option SeqNumber) (tail : List ℕ)
    (private : Result Private PrivFault) (content : Content) (target : Target)
    → asked_target content ≡ Some target → OpensPriv strictness local subkey seq_number tail private → IsContent realm request_version private content
    → (p : Private) × OpensPriv strictness local subkey seq_number tail (Ok p) × NamesTarget p.user_bytes
private_set strictness local realm subkey seq_number tail (Ok p) content target is opens h = (p, opens, asked_names realm p.user_bytes content target is h)
private_set strictness local realm subkey seq_number tail (Err fault) content target is opens h =
    let none = sym is ∙ ap asked_target h ∙ despite_none fault in cc

set_is : (strictness : Strictness) (realm : List ℕ) (keys : List ServiceKey) (ends : Endpoints) (ap_req tail : List ℕ)
    (a : Result ApOpened ApFault) (q : Request) (target : Target)
    → asked_target q.content ≡ Some target → OpensAp realm keys ap_req ends.peer a → OpensAs strictness ends.local realm request_version tail a (opened q)
    → (a : ApOpened) × OpensAp realm keys ap_req ends.peer (Ok a)
    × ((p : Private) × OpensPriv strictness ends.local a.subkey a.seq_number tail (Ok p) × NamesTarget p.user_bytes)
set_is strictness realm keys ends ap_req tail (Err fault) q target is opens h = absurd cc
set_is strictness realm keys ends ap_req tail (Ok a) q target is opens h =
    let same = request_is q (request_of ends.local a (stamp_in h.0) h.2.0) h.2.2 in
    let asked : asked_target h.2.0 ≡ Some target = sym (ap (λ (r : Request). asked_target r.content) same) ∙ is in
    (a, opens, private_set strictness ends.local realm a.subkey a.seq_number tail h.0 h.2.0 target asked h.1 h.2.1)

pub sets_are_targeted : SetsAreTargeted
sets_are_targeted strictness realm keys ends bytes q target password h version is =
    let parts = (opened_has_none strictness realm keys ends bytes q _ refl h).1 in
    set_is strictness realm keys ends (ap_of bytes) (tail_of bytes) parts.0 q target (ap asked_target is) parts.1
    (subst (λ (v : ℕ). OpensAs strictness ends.local realm v (tail_of bytes) parts.0 (opened q)) version parts.2)
