-- A message opens to one answer; and two AP-REQs that share their sealed parts and the service key open
-- alike.
use Rattle.std.proofs.Common.{◌≡◌, rules, ℕ, Bool, true, List, [], ◌∷◌, Option, Some, None, option_map, refl, sym, subst, inl, inr, ℤ, Ok, ◌∙◌}
use Rattle.std.specs.Prelude.{IfSome}
use Rattle.std.specs.List.{find}
use Rattle.krb_aes.specs.Bytes.{AreBytes}
use Rattle.krb_keys.specs.Keys.{IsProtocolKey, key_of, etype_of, number_of}
use Rattle.krb_keys.specs.declared.key.Key.{Key}
use Rattle.krb_keys.proofs.SealingLemmas.{sealed_once}
use Rattle.krb_codec.specs.Shapes.{Shape, Value}
use Rattle.krb_codec.specs.Grammar.{Spells, is_legal}
use Rattle.krb_codec.proofs.CompleteLemmas.{one_value, same_or_not}
use Rattle.krb_codec.specs.declared.kerberos_time.KerberosTime.{KerberosTime}
use Rattle.krb_codec.specs.declared.numbers.Microseconds.{Microseconds}
use Rattle.std.specs.declared.net.ip_addr.IpAddr.{IpAddr}
use Rattle.krb_der.specs.Types.{ap_req, ap_rep, authenticator, enc_ap_rep_part, enc_krb_priv_part, enc_ticket_part, encryption_key, krb_error, krb_priv}
use Rattle.krb_der.specs.Values.{ap_req_value, ap_rep_value, authenticator_value}
use Rattle.krb_der.specs.Values.{enc_ap_rep_part_value, enc_krb_priv_part_value, enc_ticket_part_value}
use Rattle.krb_der.specs.Values.{encryption_key_value, krb_error_value, krb_priv_value}
use Rattle.krb_der.specs.declared.ap_req.ApReq.{ApReq}
use Rattle.krb_der.specs.declared.authenticator.Authenticator.{Authenticator}
use Rattle.krb_der.specs.declared.encrypted_data.EncryptedData.{EncryptedData}
use Rattle.krb_der.specs.declared.encrypted_data.EncryptionKey.{EncryptionKey}
use Rattle.krb_der.specs.declared.enc_ticket_part.EncTicketPart.{EncTicketPart}
use Rattle.krb_msgs.specs.Checks.{Passed, goes_on}
use Rattle.krb_msgs.specs.Parts.{OpensPart, Reads, Unseals}
use Rattle.krb_msgs.specs.ServiceKeys.{service_key}
use Rattle.krb_msgs.specs.Presented.{Presents, IsServiceKey}
use Rattle.krb_msgs.specs.Tickets.{OpensTicket}
use Rattle.krb_msgs.specs.Authenticators.{OpensAuthenticator}
use Rattle.krb_msgs.specs.Accepted.{Accepts, IsSubkey, opened_of}
use Rattle.krb_msgs.specs.ApExchange.{OpensAp}
use Rattle.krb_msgs.specs.PrivateMessages.{OpensPriv, private_of}
use Rattle.krb_msgs.specs.Replies.{OpensApRep, OpensError, OpensReply, OpensResult, SaysCode, reply_of}
use Rattle.krb_msgs.specs.OneAnswer.{ApReqsOpenOnce, AreProtocolKeys, IsOne, PrivsOpenOnce, RepliesOpenOnce}
use Rattle.krb_msgs.specs.declared.ap_exchange.ApOpened.{ApOpened}
use Rattle.krb_msgs.specs.declared.service_keys.ServiceKey.{ServiceKey}
use Rattle.krb_msgs.specs.Laws.{ApReqsOpenAlike}
use Rattle.krb_msgs.proofs.InverseLemmas.{TellsApart, ap_rep_apart, ap_rep_part_apart}
use Rattle.krb_msgs.proofs.InverseLemmas.{ap_req_apart, authenticator_apart, error_apart}
use Rattle.krb_msgs.proofs.InverseLemmas.{krb_priv_apart, priv_part_apart, ticket_part_apart}
use Rattle.krb_msgs.proofs.OpenedLemmas.{found_passes, held_passes, then_passes}
use Rattle.krb_msgs.proofs.AnswerLemmas.{ok_is}
use Rattle.krb_msgs.proofs.OctetLemmas.{HoldsBytes, holds_bytes, key_of_bytes}
use Rattle.krb_msgs.proofs.UniqueLemmas.{one_found, one_held, one_passed, one_some, one_then, some_is}

-- ---- parts

pub one_read : {X F : Type 0} (s : Shape) (view : X → Value s) (text : List ℕ) (fault : F)
    → is_legal s ≡ true → TellsApart view → IsOne (Reads s view text fault)
one_read s view text fault legal apart =
    one_found (λ x. Spells s text (view x)) fault Passed
    (λ x y h k. apart x y (one_value s legal text (view x) (view y) h k)) (λ x _. one_passed x)

one_unsealed : {F : Type 0} (key : Key) (usage : ℕ) (part : EncryptedData) (fault : F)
    → IsProtocolKey key → IsOne (Unseals key usage part fault)
one_unsealed key usage part fault is_key =
    one_found _ fault Passed (λ plain other h k. sealed_once key usage part.cipher plain other is_key h.1 k.1) (λ x _. one_passed x)

pub one_part : {X F : Type 0} (s : Shape) (view : X → Value s) (key : Key) (usage : ℕ) (part : EncryptedData) (f g : F)
    → is_legal s ≡ true → TellsApart view → IsProtocolKey key → IsOne (OpensPart s view key usage part f g)
one_part s view key usage part f g legal apart is_key =
    one_then (Unseals key usage part f) (λ plain. Reads s view plain g) (one_unsealed key usage part f is_key)
    (λ plain _. one_read s view plain g legal apart)

-- ---- keys

-- the octet strings of a part that was opened are made of bytes
part_bytes : {X F : Type 0} (s : Shape) (view : X → Value s) (key : Key) (usage : ℕ) (part : EncryptedData) (f g : F) (x : X)
    → OpensPart s view key usage part f g (Ok x) → HoldsBytes s (view x)
part_bytes s view key usage part f g x h =
    let plain = then_passes h in
    let unsealed = found_passes plain.1 in
    let read = found_passes plain.2 in
    let bytes : AreBytes plain.0 = subst AreBytes (sym (ok_is plain.0 unsealed.0 unsealed.2)) unsealed.1.1.4 in
    subst (λ y. HoldsBytes s (view y)) (sym (ok_is x read.0 read.2)) (holds_bytes s plain.0 (view read.0) read.1 bytes)

key_in_field : (field : EncryptionKey) (key : Key) → AreBytes field.keyvalue → key_of field.keytype field.keyvalue ≡ Some key → IsProtocolKey key
key_in_field field key are h = subst (λ (o : Option Key). IfSome o IsProtocolKey) h (key_of_bytes field.keytype field.keyvalue are)

pub found_is_key : (test : ServiceKey → Bool) (keys : List ServiceKey) (key : Key) → AreProtocolKeys keys
    → option_map (λ (k : ServiceKey). k.key) (find test keys) ≡ Some key → IsProtocolKey key
found_is_key test [] key are h = absurd (search (rules, h))
found_is_key test (k ∷ ks) key are h = elim (same_or_not (test k)) [
  | inl e ↦ subst IsProtocolKey (some_is k.key key (rw e at h)) are.0
  | inr e ↦ found_is_key test ks key are.1 (rw e at h)
]

one_subkey : (field : Option EncryptionKey) → IsOne (IsSubkey field)
one_subkey None k other h i = absurd h
one_subkey (Some field) k other h i = one_some (key_of field.keytype field.keyvalue) k other h i

-- ---- the messages

one_presented : (realm : List ℕ) (keys : List ServiceKey) (bytes : List ℕ) → IsOne (Presents realm keys bytes)
unfolding Presents
one_presented realm keys bytes =
    one_then _ _ (one_read ap_req ap_req_value bytes _ refl ap_req_apart) (λ request _.
    one_held _ _ _ (one_held _ _ _ (one_held _ _ _ (one_held _ _ _ (one_held _ _ _
    (one_found _ _ _ (one_some (service_key keys request.ticket.enc_part.etype request.ticket.enc_part.kvno)) (λ key _. one_passed (request, key))))))))

presented_is_key : (realm : List ℕ) (keys : List ServiceKey) (bytes : List ℕ) (presented : ApReq × Key) → AreProtocolKeys keys
    → Presents realm keys bytes (Ok presented) → IsProtocolKey presented.1
unfolding Presents
presented_is_key realm keys bytes presented are h =
    let request = then_passes h in
    let key = found_passes (held_passes (held_passes (held_passes (held_passes (held_passes request.2).1).1).1).1).1 in
    subst (λ (p : ApReq × Key). IsProtocolKey p.1) (sym (ok_is presented (request.0, key.0) key.2))
    (found_is_key _ keys key.0 are key.1)

pub one_ticket : (key : Key) (sealed : EncryptedData) → IsProtocolKey key → IsOne (OpensTicket key sealed)
unfolding OpensTicket
one_ticket key sealed is_key =
    one_then _ _ (one_part enc_ticket_part enc_ticket_part_value key _ sealed _ _ refl ticket_part_apart is_key) (λ part _.
    one_found _ _ _ (one_some (key_of part.key.keytype part.key.keyvalue)) (λ session _. one_passed (part, session)))

pub session_is_key : (key : Key) (sealed : EncryptedData) (ticket : EncTicketPart × Key)
    → OpensTicket key sealed (Ok ticket) → IsProtocolKey ticket.1
unfolding OpensTicket
session_is_key key sealed ticket h =
    let opens = then_passes h in
    let session = found_passes opens.2 in
    let held = part_bytes enc_ticket_part enc_ticket_part_value key _ sealed _ _ opens.0 opens.1 in
    subst (λ (p : EncTicketPart × Key). IsProtocolKey p.1) (sym (ok_is ticket (opens.0, session.0) session.2))
    (key_in_field opens.0.key session.0 held.1.0.1.0 session.1)

key_in_subkey : (field : Option EncryptionKey) (key : Key)
    → IfSome (option_map encryption_key_value field) (HoldsBytes encryption_key) → IsSubkey field key → IsProtocolKey key
key_in_subkey None key held h = absurd h
key_in_subkey (Some field) key held h = key_in_field field key held.1.0 h

-- the subkey of an AP-REQ that opened is a protocol key
pub subkey_is_key : (realm : List ℕ) (keys : List ServiceKey) (bytes : List ℕ) (peer : IpAddr) (a : ApOpened)
    → OpensAp realm keys bytes peer (Ok a) → IsProtocolKey a.subkey
unfolding OpensAp OpensAuthenticator Accepts
subkey_is_key realm keys bytes peer a h =
    let presented = then_passes h in
    let ticket = then_passes presented.2 in
    let sealed = then_passes ticket.2 in
    let accepts = found_passes (held_passes (held_passes sealed.2).1).1 in
    let part = then_passes sealed.1 in
    let held = part_bytes authenticator authenticator_value ticket.0.1 _ presented.0.0.authenticator _ _ part.0 part.1 in
    let same : sealed.0 ≡ part.0 = ok_is _ _ (held_passes part.2).1 in
    let field : IsSubkey part.0.subkey accepts.0 = subst (λ (x : Authenticator). IsSubkey x.subkey accepts.0) same accepts.1 in
    subst (λ (o : ApOpened). IsProtocolKey o.subkey) (sym (ok_is a (opened_of ticket.0.0 ticket.0.1 sealed.0 accepts.0) accepts.2))
    (key_in_subkey part.0.subkey accepts.0 held.1.1.1.1.1.1.0 field)

pub one_authenticator : (session : Key) (sealed : EncryptedData) → IsProtocolKey session → IsOne (OpensAuthenticator session sealed)
unfolding OpensAuthenticator
one_authenticator session sealed is_key =
    one_then _ _ (one_part authenticator authenticator_value session _ sealed _ _ refl authenticator_apart is_key) (λ a _.
    one_held _ _ _ (one_passed a))

pub one_accepted : (peer : IpAddr) (part : EncTicketPart) (session : Key) (a : Authenticator) → IsOne (Accepts peer part session a)
unfolding Accepts
one_accepted peer part session a =
    one_held _ _ _ (one_held _ _ _ (one_found _ _ _ (one_subkey a.subkey) (λ subkey _. one_passed (opened_of part session a subkey))))

pub ap_reqs_open_once : ApReqsOpenOnce
unfolding OpensAp
ap_reqs_open_once realm keys bytes peer are =
    one_then (Presents realm keys bytes) _ (one_presented realm keys bytes) (λ presented h.
    one_then (OpensTicket presented.1 presented.0.ticket.enc_part) _
    (one_ticket presented.1 presented.0.ticket.enc_part (presented_is_key realm keys bytes presented are h))
    (λ ticket k.
    one_then (OpensAuthenticator ticket.1 presented.0.authenticator) _
    (one_authenticator ticket.1 presented.0.authenticator
    (session_is_key presented.1 presented.0.ticket.enc_part ticket k)) (λ a _.
    one_accepted peer ticket.0 ticket.1 a)))

pub privs_open_once : PrivsOpenOnce
unfolding OpensPriv
privs_open_once strictness local subkey seq_number bytes is_key =
    one_then _ _ (one_read krb_priv krb_priv_value bytes _ refl krb_priv_apart) (λ m _.
    one_held _ _ _
    (one_then _ _ (one_part enc_krb_priv_part enc_krb_priv_part_value subkey _ m.enc_part _ _ refl priv_part_apart is_key) (λ part _.
    one_held _ _ _ (one_held _ _ _ (one_passed (private_of part))))))

one_code : (bytes : List ℕ) (error : Option ℤ) → IsOne (SaysCode bytes error)
one_code bytes error = one_held _ _ _ (one_passed (reply_of bytes error))

one_ap_rep : (session : Key) (ctime : KerberosTime) (cusec : Microseconds) (bytes : List ℕ) → IsProtocolKey session
    → IsOne (OpensApRep session ctime cusec bytes)
unfolding OpensApRep
one_ap_rep session ctime cusec bytes is_key =
    one_then _ _ (one_read ap_rep ap_rep_value bytes _ refl ap_rep_apart) (λ m _.
    one_held _ _ _
    (one_then _ _ (one_part enc_ap_rep_part enc_ap_rep_part_value session _ m.enc_part _ _ refl ap_rep_part_apart is_key) (λ part _.
    one_held _ _ _ (one_passed tt))))

one_result : (subkey : Key) (bytes : List ℕ) → IsProtocolKey subkey → IsOne (OpensResult subkey bytes)
unfolding OpensResult
one_result subkey bytes is_key =
    one_then _ _ (one_read krb_priv krb_priv_value bytes _ refl krb_priv_apart) (λ m _.
    one_held _ _ _
    (one_then _ _ (one_part enc_krb_priv_part enc_krb_priv_part_value subkey _ m.enc_part _ _ refl priv_part_apart is_key) (λ part _.
    one_code part.user_data None)))

one_error : (bytes : List ℕ) → IsOne (OpensError bytes)
unfolding OpensError
one_error bytes =
    one_then _ _ (one_read krb_error krb_error_value bytes _ refl error_apart) (λ m _.
    one_held _ _ _ (one_found _ _ _ (one_some m.e_data) (λ found _. one_code found (Some m.error_code))))

pub replies_open_once : RepliesOpenOnce
unfolding OpensReply
replies_open_once session subkey ctime cusec [] tail is_key is_subkey = one_error tail
replies_open_once session subkey ctime cusec (b ∷ bytes) tail is_key is_subkey =
    one_then _ _ (one_ap_rep session ctime cusec (b ∷ bytes) is_key) (λ _ _. one_result subkey tail is_subkey)

-- ---- two AP-REQs

-- a part's kvno says nothing
abbrev bare : ℤ → List ℕ → EncryptedData
bare etype cipher = record { etype = etype; kvno = None; cipher = cipher }

etype_is : {X F : Type 0} (s : Shape) (view : X → Value s) (key : Key) (usage : ℕ) (part : EncryptedData) (f g : F) (x : X)
    → OpensPart s view key usage part f g (Ok x) → part.etype ≡ number_of (etype_of key)
etype_is s view key usage part f g x h = (found_passes (then_passes h).1).1.0

same_part : {X F : Type 0} (s : Shape) (view : X → Value s) (key : Key) (usage : ℕ) (part other : EncryptedData) (f g : F) (x : X)
    → OpensPart s view key usage part f g (Ok x) → other.etype ≡ number_of (etype_of key) → part.cipher ≡ other.cipher
    → OpensPart s view key usage other f g (Ok x)
same_part s view key usage part other f g x h etype cipher =
    subst (λ (e : ℤ). OpensPart s view key usage (bare e other.cipher) f g (Ok x)) (etype_is s view key usage part f g x h ∙ sym etype)
    (subst (λ (c : List ℕ). OpensPart s view key usage (bare part.etype c) f g (Ok x)) cipher h)

same_ticket : (key : Key) (part other : EncryptedData) (ticket others : EncTicketPart × Key)
    → OpensTicket key part (Ok ticket) → OpensTicket key other (Ok others) → part.cipher ≡ other.cipher
    → OpensTicket key part (Ok others)
unfolding OpensTicket
same_ticket key part other ticket others h k cipher =
    let opens = then_passes h in
    let opens_other = then_passes k in
    goes_on opens_other.0
    (same_part enc_ticket_part enc_ticket_part_value key _ other part _ _ opens_other.0 opens_other.1
    (etype_is enc_ticket_part enc_ticket_part_value key _ part _ _ opens.0 opens.1) (sym cipher)) opens_other.2

same_authenticator : (session : Key) (part other : EncryptedData) (a b : Authenticator)
    → OpensAuthenticator session part (Ok a) → OpensAuthenticator session other (Ok b) → part.cipher ≡ other.cipher
    → OpensAuthenticator session part (Ok b)
unfolding OpensAuthenticator
same_authenticator session part other a b h k cipher =
    let opens = then_passes h in
    let opens_other = then_passes k in
    goes_on opens_other.0
    (same_part authenticator authenticator_value session _ other part _ _ opens_other.0 opens_other.1
    (etype_is authenticator authenticator_value session _ part _ _ opens.0 opens.1) (sym cipher)) opens_other.2

-- what ticket and authenticator of an AP-REQ that opens hold
abbrev Holds : IpAddr → Key → ApReq → ApOpened → Type 0
Holds peer key request a =
    (ticket : EncTicketPart × Key) × OpensTicket key request.ticket.enc_part (Ok ticket)
    × ((x : Authenticator) × OpensAuthenticator ticket.1 request.authenticator (Ok x) × Accepts peer ticket.0 ticket.1 x (Ok a))

holds : (realm : List ℕ) (keys : List ServiceKey) (peer : IpAddr) (bytes : List ℕ) (request : ApReq) (key : Key) (a : ApOpened)
    → Spells ap_req bytes (ap_req_value request) → IsServiceKey keys request.ticket.enc_part key
    → OpensAp realm keys bytes peer (Ok a) → Holds peer key request a
unfolding OpensAp Presents
holds realm keys peer bytes request key a spelled taken h =
    let presented = then_passes h in
    let read = then_passes presented.1 in
    let found = found_passes (held_passes (held_passes (held_passes (held_passes (held_passes read.2).1).1).1).1).1 in
    let one = found_passes read.1 in
    let same : read.0 ≡ request = ok_is _ _ one.2 ∙ ap_req_apart one.0 request (one_value ap_req refl bytes _ _ one.1 spelled) in
    let taken_again : IsServiceKey keys request.ticket.enc_part found.0 = subst (λ (r : ApReq). IsServiceKey keys r.ticket.enc_part found.0) same found.1 in
    let same_key : found.0 ≡ key = some_is found.0 key (sym taken_again ∙ taken) in
    let first : Holds peer presented.0.1 presented.0.0 a = (
    let ticket = then_passes presented.2 in
    let authenticator = then_passes ticket.2 in
    (ticket.0, ticket.1, (authenticator.0, authenticator.1, authenticator.2))
    ) in
    let second : Holds peer found.0 read.0 a = subst (λ (p : ApReq × Key). Holds peer p.1 p.0 a) (ok_is presented.0 (read.0, found.0) found.2) first in
    subst (λ (k : Key). Holds peer k request a) same_key (subst (λ (r : ApReq). Holds peer found.0 r a) same second)

pub ap_reqs_open_alike : ApReqsOpenAlike
ap_reqs_open_alike realm keys peer bytes others request other key a b are spelled spelled_other taken taken_other tickets authenticators opens opens_other =
    let one = holds realm keys peer bytes request key a spelled taken opens in
    let two = holds realm keys peer others other key b spelled_other taken_other opens_other in
    let same : one.0 ≡ two.0 =
    ok_is one.0 two.0 (one_ticket key request.ticket.enc_part (found_is_key _ keys key are taken) (Ok one.0) (Ok two.0) one.1
    (same_ticket key request.ticket.enc_part other.ticket.enc_part one.0 two.0 one.1 two.1 tickets)) in
    let session = session_is_key key request.ticket.enc_part one.0 one.1 in
    let second : OpensAuthenticator one.0.1 other.authenticator (Ok two.2.0) =
    subst (λ (t : EncTicketPart × Key). OpensAuthenticator t.1 other.authenticator (Ok two.2.0)) (sym same) two.2.1 in
    let same_again : one.2.0 ≡ two.2.0 =
    ok_is one.2.0 two.2.0 (one_authenticator one.0.1 request.authenticator session (Ok one.2.0) (Ok two.2.0) one.2.1
    (same_authenticator one.0.1 request.authenticator other.authenticator one.2.0 two.2.0 one.2.1 second authenticators)) in
    let third : Accepts peer one.0.0 one.0.1 two.2.0 (Ok b) =
    subst (λ (t : EncTicketPart × Key). Accepts peer t.0 t.1 two.2.0 (Ok b)) (sym same) two.2.2 in
    let fourth : Accepts peer one.0.0 one.0.1 one.2.0 (Ok b) =
    subst (λ (x : Authenticator). Accepts peer one.0.0 one.0.1 x (Ok b)) (sym same_again) third in
    ok_is a b (one_accepted peer one.0.0 one.0.1 one.2.0 (Ok a) (Ok b) one.2.2 fourth)
