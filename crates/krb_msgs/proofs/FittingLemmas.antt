-- A message is little longer than its parts.
use Rattle.std.proofs.Common.{◌≡◌, ℕ, ◌+◌, ◌≤◌, ◌<◌, ◌^◌, true, List, ◌++◌, length, pos, refl}
use Rattle.std.proofs.Common.{subst, arith, length-append, Option, Some, None, option_map, ◌≤ℤ◌}
use Rattle.std.proofs.lemmas.Bool.{lt-ltb}
use Rattle.std.proofs.lemmas.Int.{ints}
use Rattle.krb_aes.specs.Aes.{aes}
use Rattle.krb_aes.proofs.CtsLength.{length-aes, length-cts}
use Rattle.krb_keys.specs.Keys.{bytes_of, etype_of, number_of}
use Rattle.krb_keys.specs.KeyUsages.{usage_ticket, usage_ap_req_authenticator, usage_ap_rep_enc_part, usage_krb_priv}
use Rattle.krb_keys.specs.Sealing.{checksum_of, enciphered, encryption_key, sealed}
use Rattle.krb_keys.specs.declared.key.Key.{Key}
use Rattle.krb_keys.specs.declared.key.Key.TheVariants.{Aes128, Aes256}
use Rattle.krb_keys.proofs.SealingLemmas.{length-checksum_of}
use Rattle.krb_codec.specs.Shapes.{Shape, Value, ◌&◌, uint32, tagged, field, nothing, int32, flags}
use Rattle.krb_codec.specs.Grammar.{is_element}
use Rattle.krb_codec.specs.Texts.{fits, is_in_range, longest_text, text}
use Rattle.krb_codec.proofs.CompleteLemmas.{and_both, and_true, one_value}
use Rattle.krb_codec.proofs.TextLemmas.{text_spells}
use Rattle.krb_protocol.specs.Numbers as protocol
use Rattle.krb_der.specs.Types as types
use Rattle.krb_der.specs.Types.{ap_rep, ap_req, authenticator, enc_ap_rep_part, enc_krb_priv_part, enc_ticket_part, encrypted_data, krb_priv}
use Rattle.krb_der.specs.Values.{ap_rep_value, ap_req_value, authenticator_value, enc_ap_rep_part_value}
use Rattle.krb_der.specs.Values.{enc_krb_priv_part_value, enc_ticket_part_value, krb_priv_value, ticket_value}
use Rattle.krb_msgs.specs.Making.{ap_rep_of, ap_req_of, priv_of, ticket_of}
use Rattle.krb_msgs.specs.Fitting.{ApRepsFit, ApReqsFit, PrivsFit, TicketsAreShort, TicketsFit}
use Rattle.krb_msgs.proofs.LengthLemmas.{between, fit, short_element, short_texts_fit, texts_are_short}
use Rattle.krb_msgs.proofs.PartLemmas.{some_text}

length-sealed : (key : Key) (usage : ℕ) (confounder plain : List ℕ) → length confounder ≡ 16
    → 0 < length plain → length (sealed key usage confounder plain) ≡ length plain + 28
unfolding sealed enciphered
length-sealed key usage confounder plain c16 some =
    let whole : List ℕ = confounder ++ plain in
    let ke : List ℕ = bytes_of (encryption_key key usage) in
    let long : length whole ≡ length plain + 16 = omega (arith, length-append confounder plain) in
    omega (
      arith,
      length-append (enciphered key usage whole) (checksum_of key usage whole),
      length-checksum_of key usage whole,
      length-cts (aes ke) (length-aes ke) whole (omega arith),
    )

-- of a value's text
pub sealed_length : (key : Key) (usage : ℕ) (confounder : List ℕ) (s : Shape) (v : Value s) → length confounder ≡ 16 → is_element s ≡ true
    → length (sealed key usage confounder (text s v)) ≡ length (text s v) + 28
sealed_length key usage confounder s v c16 one = length-sealed key usage confounder (text s v) c16 (some_text s v one)

-- ---- the value of a sealed part

abbrev sealed_value : Key → Option ℕ → List ℕ → Value encrypted_data
sealed_value key kvno cipher = number_of (etype_of key) & option_map pos kvno & cipher & tt

kvno_range : (n : ℕ) → n < 2 ^ 32 → is_in_range uint32 (pos n) ≡ true
kvno_range n lt =
    let low : pos 0 ≤ℤ pos n = omega (arith, ints) in
    let high : pos n ≤ℤ pos 4294967295 = omega (arith, ints, lt) in
    between (pos 0) (pos 4294967295) (pos n) low high

sealed_range : (key : Key) (cipher : List ℕ) → is_in_range encrypted_data (sealed_value key None cipher) ≡ true
sealed_range (Aes128 bytes) cipher = refl
sealed_range (Aes256 bytes) cipher = refl

kvno_sealed_range : (key : Key) (n : ℕ) (cipher : List ℕ) → n < 2 ^ 32
    → is_in_range encrypted_data (sealed_value key (Some n) cipher) ≡ true
kvno_sealed_range (Aes128 bytes) n cipher lt = and_both (kvno_range n lt) refl
kvno_sealed_range (Aes256 bytes) n cipher lt = and_both (kvno_range n lt) refl

-- ---- the messages

pub ap_reps_fit : ApRepsFit
ap_reps_fit part session confounder c16 le =
    let cipher : List ℕ = sealed session usage_ap_rep_enc_part confounder (text enc_ap_rep_part (enc_ap_rep_part_value part)) in
    let len = sealed_length session usage_ap_rep_enc_part confounder enc_ap_rep_part (enc_ap_rep_part_value part) c16 refl in
    fit ap_rep (ap_rep_value (ap_rep_of part session confounder)) (and_both (sealed_range session cipher) refl) (omega (arith, len, le))

pub privs_fit : PrivsFit
privs_fit part subkey confounder c16 le =
    let cipher : List ℕ = sealed subkey usage_krb_priv confounder (text enc_krb_priv_part (enc_krb_priv_part_value part)) in
    let len = sealed_length subkey usage_krb_priv confounder enc_krb_priv_part (enc_krb_priv_part_value part) c16 refl in
    fit krb_priv (krb_priv_value (priv_of part subkey confounder)) (and_both (sealed_range subkey cipher) refl) (omega (arith, len, le))

pub tickets_fit : TicketsFit
tickets_fit realm part service confounder c16 lt le =
    let cipher : List ℕ = sealed service.key usage_ticket confounder (text enc_ticket_part (enc_ticket_part_value part)) in
    let len = sealed_length service.key usage_ticket confounder enc_ticket_part (enc_ticket_part_value part) c16 refl in
    fit types.ticket (ticket_value (ticket_of realm part service confounder))
    (and_both (kvno_sealed_range service.key service.kvno cipher lt) refl) (omega (arith, len, le))

pub tickets_are_short : TicketsAreShort
tickets_are_short realm part service confounder c16 =
    let len = sealed_length service.key usage_ticket confounder enc_ticket_part (enc_ticket_part_value part) c16 refl in
    let short = texts_are_short types.ticket (ticket_value (ticket_of realm part service confounder)) in
    omega (arith, len, short)

-- the fields of an AP-REQ before its ticket, and that after it
abbrev request_value : ℕ → Value types.ticket → Key → List ℕ → Value ap_req
request_value options v key cipher =
    protocol.pvno & protocol.krb_ap_req & options & v & sealed_value key None cipher & tt

request_range : (options : ℕ) (v : Value types.ticket) (key : Key) (cipher : List ℕ) → options < 2 ^ 32
    → is_in_range types.ticket v ≡ true → is_in_range ap_req (request_value options v key cipher) ≡ true
request_range options v key cipher lt range =
    let bits : is_in_range flags options ≡ true = lt-ltb options 4294967296 lt in
    and_both bits (and_both range (and_both (sealed_range key cipher) refl))

field_short : (first rest : Shape) (v : Value first) (w : Value rest) (m n : ℕ)
    → length (text first v) ≤ m → length (text rest w) ≤ n → length (text (field first rest) (v, w)) ≤ m + n
field_short first rest v w m n one others = omega (arith, length-append (text first v) (text rest w))

tagged_short : (tag : ℕ) (s : Shape) (v : Value s) (n : ℕ) → length (text s v) ≤ n → length (text (tagged tag s) v) ≤ 10 + n
tagged_short tag s v n le = omega (arith, short_element tag (text s v))

abbrev last_fields : Shape
last_fields = field (tagged 0xa4 encrypted_data) nothing

abbrev ticket_fields : Shape
ticket_fields = field (tagged 0xa3 types.ticket) last_fields

request_short : (options : ℕ) (v : Value types.ticket) (key : Key) (cipher : List ℕ)
    → length (text types.ticket v) + length cipher ≤ 65028
    → length (text ap_req (request_value options v key cipher)) ≤ longest_text
request_short options v key cipher le =
    let last = texts_are_short last_fields (sealed_value key None cipher & tt) in
    let ticket = field_short (tagged 0xa3 types.ticket) last_fields v
    (sealed_value key None cipher & tt) (10 + length (text types.ticket v)) (68 + length cipher)
    (tagged_short 0xa3 types.ticket v _ (omega arith)) (omega (arith, last)) in
    let flag = field_short (tagged 0xa2 flags) ticket_fields options
    (v & sealed_value key None cipher & tt) 25 (78 + length (text types.ticket v) + length cipher)
    (texts_are_short (tagged 0xa2 flags) options) (omega (arith, ticket)) in
    let type = field_short (tagged 0xa1 int32) (field (tagged 0xa2 flags) ticket_fields) protocol.krb_ap_req
    (options & v & sealed_value key None cipher & tt) 28 (103 + length (text types.ticket v) + length cipher)
    (texts_are_short (tagged 0xa1 int32) protocol.krb_ap_req) (omega (arith, flag)) in
    let all = field_short (tagged 0xa0 int32) (field (tagged 0xa1 int32) (field (tagged 0xa2 flags) ticket_fields))
    protocol.pvno (protocol.krb_ap_req & options & v & sealed_value key None cipher & tt) 28
    (131 + length (text types.ticket v) + length cipher)
    (texts_are_short (tagged 0xa0 int32) protocol.pvno) (omega (arith, type)) in
    let fields : Shape = field (tagged 0xa0 int32) (field (tagged 0xa1 int32) (field (tagged 0xa2 flags) ticket_fields)) in
    let whole = tagged_short 0x6e (tagged 0x30 fields) (request_value options v key cipher) _
    (tagged_short 0x30 fields (request_value options v key cipher) _ all) in
    omega (arith, whole, le)

pub ap_reqs_fit : ApReqsFit
unfolding fits
ap_reqs_fit made t options a session confounder c16 lt fit_made spelled le =
    let cipher : List ℕ = sealed session usage_ap_req_authenticator confounder (text authenticator (authenticator_value a)) in
    let len = sealed_length session usage_ap_req_authenticator confounder authenticator (authenticator_value a) c16 refl in
    let same : ticket_value made ≡ ticket_value t = one_value types.ticket refl _ _ _ (text_spells types.ticket refl (ticket_value made) fit_made) spelled in
    let range = (and_true _ _ fit_made).0 in
    short_texts_fit ap_req (ap_req_value (ap_req_of t options a session confounder))
    (subst (λ (v : Value types.ticket). is_in_range ap_req (request_value options v session cipher) ≡ true) same
    (request_range options (ticket_value made) session cipher lt range))
    (subst (λ (v : Value types.ticket). length (text ap_req (request_value options v session cipher)) ≤ longest_text) same
    (request_short options (ticket_value made) session cipher (omega (arith, len, le))))
