-- The records of a request fit, and so do its messages; how long they are at most.
use Rattle.std.proofs.Common.{◌≡◌, ℕ, ◌*◌, ◌≤◌, ◌<◌, true, false, Bool, List, [], ◌∷◌, length, map, leb, Option, Some, None, arith, refl, subst}
use Rattle.std.specs.Prelude.{if◌then◌else◌, IfSome, option_map}
use Rattle.std.specs.List.{list_all}
use Rattle.std.proofs.lemmas.Bool.{leb-true}
use Rattle.std.proofs.lemmas.Int.{ints}
use Rattle.krb_keys.specs.KeyUsages.{usage_ticket, usage_ap_req_authenticator, usage_krb_priv}
use Rattle.krb_codec.specs.Shapes.{Value, ◌&◌, flags, general_string}
use Rattle.krb_codec.specs.Texts.{each_is, fits, is_in_range, text}
use Rattle.krb_codec.proofs.CompleteLemmas.{and_both, and_true, one_value}
use Rattle.krb_codec.proofs.TextLemmas.{text_spells}
use Rattle.krb_protocol.specs.Numbers as protocol
use Rattle.krb_der.specs.Types as types
use Rattle.krb_der.specs.Values.{ap_req_value, authenticator_value, change_passwd_data_value, enc_krb_priv_part_value}
use Rattle.krb_der.specs.Values.{enc_ticket_part_value, krb_priv_value, principal_name_value, ticket_value}
use Rattle.krb_der.specs.declared.ticket.Ticket.{Ticket}
use Rattle.krb_msgs.specs.Lengths.{longest_each}
use Rattle.krb_msgs.specs.Making.{SpellsTicket, ap_req_of, priv_of, word_bytes}
use Rattle.krb_msgs.proofs.LengthLemmas.{micros_range, time_range}
use Rattle.krb_msgs.proofs.FittingLemmas.{ap_reqs_fit, privs_fit, sealed_length, tickets_fit}
use Rattle.krb_msgs.proofs.PartLemmas.{some_text}
use Rattle.krb_msgs.proofs.WordLemmas.{length-word_bytes}
use Rattle.krb_msgs.proofs.ReplyFittingLemmas.{priv_parts_fit}
use Rattle.chpw_rules.specs.Limits.{component_counts, is_in}
use Rattle.chpw_rules.specs.Names.{is_component, is_name}
use Rattle.chpw_rules.specs.declared.name.Name.{Name}
use Rattle.chpw_client.specs.Questions.{IsAskable, Question}
use Rattle.chpw_client.specs.Requests.{ap_req_text, authenticator, bit, change, longest_ap_req, longest_krb_priv}
use Rattle.chpw_client.specs.Requests.{loopback, principal, priv_text, private_part, ticket, ticket_part, ticket_text, user_data}
use Rattle.chpw_client.specs.Words.{drawn_key}
use Rattle.chpw_client.specs.declared.drawing.RequestWords.{RequestWords}
use Rattle.chpw_client.proofs.LengthLemmas.{close_fits, closest, texts_are_close}

-- ---- names

component_length : (part : List ℕ) → is_component part ≡ true → length part ≤ 128
component_length part h =
    let both = and_true (leb 1 (length part)) (leb (length part) 128) h in
    leb-true (length part) 128 both.1

components_close : (parts : List (List ℕ)) → list_all is_component parts ≡ true
    → longest_each (closest general_string) (map (λ (b : List ℕ). b) parts) ≤ 132 * length parts
components_close [] h = omega arith
components_close (part ∷ parts) h =
    let both = and_true (is_component part) (list_all is_component parts) h in
    let one = component_length part both.0 in
    let others = components_close parts both.1 in
    omega (arith, one, others)

principal_close : (name : Name) → is_name name ≡ true
    → closest types.principal_name (principal_name_value (principal name)) ≤ 1090
principal_close name h =
    let both = and_true (is_in component_counts (length name.parts)) (list_all is_component name.parts) h in
    let count = and_true (leb 1 (length name.parts)) (leb (length name.parts) 8) both.0 in
    let few : length name.parts ≤ 8 = leb-true (length name.parts) 8 count.1 in
    let close = components_close name.parts both.1 in
    omega (arith, few, close)

components_range : (parts : List (List ℕ))
    → each_is (is_in_range general_string) (map (λ (b : List ℕ). b) parts) ≡ true
components_range [] = refl
components_range (part ∷ parts) = components_range parts

principal_range : (name : Name) → is_in_range types.principal_name (principal_name_value (principal name)) ≡ true
principal_range name = and_both (components_range name.parts) refl

-- ---- numbers and times

initial_range : (initial : Bool) → is_in_range flags (if initial then bit protocol.ticket_initial else 0) ≡ true
initial_range true = refl
initial_range false = refl

-- ---- the ticket

-- as many words as are drawn for each
pub record HasSizes (w : RequestWords) : Type 0 where
  pub session : length w.session ≡ 8
  pub subkey : length w.subkey ≡ 8
  pub ticket : length w.ticket ≡ 4
  pub authenticator : length w.authenticator ≡ 4
  pub private : length w.private ≡ 4

ticket_part_close : (q : Question) (w : RequestWords) → IsAskable q → HasSizes w
    → closest types.enc_ticket_part (enc_ticket_part_value (ticket_part q w)) ≤ 1560
ticket_part_close q w ask sizes =
    let name = principal_close q.client ask.client in
    let key = length-word_bytes w.session in
    omega (arith, name, key, ask.realm, sizes.session)

ticket_part_range : (q : Question) (w : RequestWords) → IsAskable q
    → is_in_range types.enc_ticket_part (enc_ticket_part_value (ticket_part q w)) ≡ true
ticket_part_range q w ask =
    let start = time_range q.now.seconds (omega (arith, ints, ask.start)) (omega (arith, ints, ask.end)) in
    let end = time_range _ (omega (arith, ints, ask.start)) (omega (arith, ints, ask.end)) in
    and_both (initial_range q.initial) (and_both (principal_range q.client) (and_both start (and_both end refl)))

pub ticket_part_fits : (q : Question) (w : RequestWords) → IsAskable q → HasSizes w
    → fits types.enc_ticket_part (enc_ticket_part_value (ticket_part q w)) ≡ true
ticket_part_fits q w ask sizes =
    let close = ticket_part_close q w ask sizes in
    close_fits _ _ (ticket_part_range q w ask) (omega (arith, close))

ticket_part_short : (q : Question) (w : RequestWords) → IsAskable q → HasSizes w
    → length (text types.enc_ticket_part (enc_ticket_part_value (ticket_part q w))) ≤ 1560
ticket_part_short q w ask sizes =
    let close = ticket_part_close q w ask sizes in
    let short = texts_are_close types.enc_ticket_part (enc_ticket_part_value (ticket_part q w)) (omega (arith, close)) in
    omega (arith, close, short)

-- four words are a confounder
sixteen : (words : List ℕ) → length words ≡ 4 → length (word_bytes words) ≡ 16
sixteen words n = omega (arith, length-word_bytes words, n)

pub ticket_fits : (q : Question) (w : RequestWords) → IsAskable q → HasSizes w
    → fits types.ticket (ticket_value (ticket q w)) ≡ true
ticket_fits q w ask sizes =
    let short = ticket_part_short q w ask sizes in
    tickets_fit q.realm (ticket_part q w) q.service (word_bytes w.ticket) (sixteen w.ticket sizes.ticket) ask.kvno
    (omega (arith, short, ask.realm))

ticket_close : (q : Question) (w : RequestWords) → IsAskable q → HasSizes w
    → closest types.ticket (ticket_value (ticket q w)) ≤ 2010
ticket_close q w ask sizes =
    let v = enc_ticket_part_value (ticket_part q w) in
    let short = ticket_part_short q w ask sizes in
    let len = sealed_length q.service.key usage_ticket (word_bytes w.ticket) types.enc_ticket_part v (sixteen w.ticket sizes.ticket) refl in
    omega (arith, len, short, ask.realm)

-- ---- the AP-REQ

authenticator_close : (q : Question) (w : RequestWords) → IsAskable q → HasSizes w
    → closest types.authenticator (authenticator_value (authenticator q w)) ≤ 1540
authenticator_close q w ask sizes =
    let name = principal_close q.client ask.client in
    let key = length-word_bytes w.subkey in
    omega (arith, name, key, ask.realm, sizes.subkey)

authenticator_range : (q : Question) (w : RequestWords) → IsAskable q
    → is_in_range types.authenticator (authenticator_value (authenticator q w)) ≡ true
authenticator_range q w ask =
    let now = time_range q.now.seconds (omega (arith, ints, ask.start)) (omega (arith, ints, ask.end)) in
    and_both (principal_range q.client) (and_both (micros_range q.now.micros ask.micros) (and_both now refl))

pub authenticator_fits : (q : Question) (w : RequestWords) → IsAskable q → HasSizes w
    → fits types.authenticator (authenticator_value (authenticator q w)) ≡ true
authenticator_fits q w ask sizes =
    let close = authenticator_close q w ask sizes in
    close_fits _ _ (authenticator_range q w ask) (omega (arith, close))

authenticator_short : (q : Question) (w : RequestWords) → IsAskable q → HasSizes w
    → length (text types.authenticator (authenticator_value (authenticator q w))) ≤ 1540
authenticator_short q w ask sizes =
    let close = authenticator_close q w ask sizes in
    let short = texts_are_close types.authenticator (authenticator_value (authenticator q w)) (omega (arith, close)) in
    omega (arith, close, short)

-- with any ticket that the ticket's text spells
pub ap_req_fits : (q : Question) (w : RequestWords) (t : Ticket) → IsAskable q → HasSizes w
    → SpellsTicket (ticket_text q w) t
    → fits types.ap_req (ap_req_value (ap_req_of t
    (bit protocol.mutual_required) (authenticator q w) (drawn_key w.session) (word_bytes w.authenticator))) ≡ true
ap_req_fits q w t ask sizes spelled =
    let close = ticket_close q w ask sizes in
    let long = texts_are_close types.ticket (ticket_value (ticket q w)) (omega (arith, close)) in
    let short = authenticator_short q w ask sizes in
    ap_reqs_fit (ticket q w) t (bit protocol.mutual_required) (authenticator q w) (drawn_key w.session) (word_bytes w.authenticator)
    (sixteen w.authenticator sizes.authenticator) (omega arith) (ticket_fits q w ask sizes) spelled
    (omega (arith, close, long, short))

pub ap_req_short : (q : Question) (w : RequestWords) (t : Ticket) → IsAskable q → HasSizes w
    → SpellsTicket (ticket_text q w) t → length (ap_req_text t q w) ≤ longest_ap_req
ap_req_short q w t ask sizes spelled =
    let v = authenticator_value (authenticator q w) in
    let fit = ticket_fits q w ask sizes in
    let same : ticket_value (ticket q w) ≡ ticket_value t =
    one_value types.ticket refl _ _ _ (text_spells types.ticket refl (ticket_value (ticket q w)) fit) spelled in
    let close : closest types.ticket (ticket_value t) ≤ 2010 =
    subst (λ x. closest types.ticket x ≤ 2010) same (ticket_close q w ask sizes) in
    let short = authenticator_short q w ask sizes in
    let len = sealed_length (drawn_key w.session) usage_ap_req_authenticator (word_bytes w.authenticator) types.authenticator v
    (sixteen w.authenticator sizes.authenticator) refl in
    let all = texts_are_close types.ap_req (ap_req_value (ap_req_of t
    (bit protocol.mutual_required) (authenticator q w) (drawn_key w.session) (word_bytes w.authenticator)))
    (omega (arith, close, short, len)) in
    omega (arith, all, close, short, len)

pub ap_req_some : (q : Question) (w : RequestWords) (t : Ticket) → 0 < length (ap_req_text t q w)
ap_req_some q w t = some_text types.ap_req (ap_req_value (ap_req_of t
    (bit protocol.mutual_required) (authenticator q w) (drawn_key w.session) (word_bytes w.authenticator))) refl

-- ---- the KRB-PRIV

-- a password, a realm, and whose password it is
abbrev change_parts : (password realm : List ℕ) → Option Name → Value types.change_passwd_data
change_parts password realm target =
    password & option_map principal_name_value (option_map principal target)
    & option_map (λ (b : List ℕ). b) (option_map (λ (n : Name). realm) target) & tt

change_close : (password realm : List ℕ) (target : Option Name) → length password ≤ 60000 → length realm ≤ 255
    → IfSome target (λ n. is_name n ≡ true)
    → closest types.change_passwd_data (change_parts password realm target) ≤ 61400
change_close password realm None few short h = omega (arith, few)
change_close password realm (Some name) few short h =
    let close = principal_close name h in
    omega (arith, few, short, close)

change_range : (password realm : List ℕ) (target : Option Name)
    → is_in_range types.change_passwd_data (change_parts password realm target) ≡ true
change_range password realm None = refl
change_range password realm (Some name) = and_both (principal_range name) refl

pub change_fits : (q : Question) → IsAskable q
    → fits types.change_passwd_data (change_passwd_data_value (change q)) ≡ true
change_fits q ask =
    let close = change_close q.password q.realm q.target ask.password ask.realm ask.target in
    close_fits types.change_passwd_data (change_passwd_data_value (change q)) (change_range q.password q.realm q.target)
    (omega (arith, close))

change_short : (q : Question) → IsAskable q
    → length (text types.change_passwd_data (change_passwd_data_value (change q))) ≤ 61400
change_short q ask =
    let close = change_close q.password q.realm q.target ask.password ask.realm ask.target in
    let short = texts_are_close types.change_passwd_data (change_passwd_data_value (change q)) (omega (arith, close)) in
    omega (arith, close, short)

chosen_short : (old : Bool) (password change : List ℕ) → length password ≤ 60000 → length change ≤ 61400
    → length (if old then password else change) ≤ 61400
chosen_short true password change few short = omega (arith, few)
chosen_short false password change few short = short

user_data_short : (q : Question) → IsAskable q → length (user_data q) ≤ 61400
user_data_short q ask =
    chosen_short q.old q.password (text types.change_passwd_data (change_passwd_data_value (change q))) ask.password (change_short q ask)

pub private_part_fits : (q : Question) → IsAskable q
    → fits types.enc_krb_priv_part (enc_krb_priv_part_value (private_part q)) ≡ true
private_part_fits q ask =
    let short = user_data_short q ask in
    (priv_parts_fit loopback _ 0 (omega arith) (omega (arith, short)) (omega arith)).0

private_part_short : (q : Question) → IsAskable q
    → length (text types.enc_krb_priv_part (enc_krb_priv_part_value (private_part q))) ≤ 61490
private_part_short q ask =
    let short = user_data_short q ask in
    let part = texts_are_close types.enc_krb_priv_part (enc_krb_priv_part_value (private_part q)) (omega (arith, short)) in
    omega (arith, short, part)

pub priv_fits : (q : Question) (w : RequestWords) → IsAskable q → HasSizes w
    → fits types.krb_priv (krb_priv_value (priv_of (private_part q) (drawn_key w.subkey) (word_bytes w.private))) ≡ true
priv_fits q w ask sizes =
    let short = private_part_short q ask in
    privs_fit (private_part q) (drawn_key w.subkey) (word_bytes w.private) (sixteen w.private sizes.private) (omega (arith, short))

pub priv_short : (q : Question) (w : RequestWords) → IsAskable q → HasSizes w → length (priv_text q w) ≤ longest_krb_priv
priv_short q w ask sizes =
    let v = enc_krb_priv_part_value (private_part q) in
    let short = private_part_short q ask in
    let len = sealed_length (drawn_key w.subkey) usage_krb_priv (word_bytes w.private) types.enc_krb_priv_part v (sixteen w.private sizes.private) refl in
    let all = texts_are_close types.krb_priv (krb_priv_value (priv_of (private_part q) (drawn_key w.subkey) (word_bytes w.private)))
    (omega (arith, short, len)) in
    omega (arith, all, short, len)
