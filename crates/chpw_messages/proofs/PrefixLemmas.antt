-- A message that is cut short.
use Rattle.std.proofs.Common.{◌≡◌, ℕ, suc, ◌+◌, ◌-◌, ◌<◌, ◌≤◌, List, ◌∷◌, ◌++◌, true, false, ◌&&◌, length, take}
use Rattle.std.proofs.Common.{drop, Option, Some, None, Result, Ok, Err, refl, sym, ◌∙◌, ap, subst, arith, inl, inr}
use Rattle.std.specs.Prelude.{◌||◌, ◌==◌, nat_lt, if◌then◌else◌}
use Rattle.std.specs.Int.{to_be_bytes, w16}
use Rattle.std.specs.List.{list_any}
use Rattle.std.proofs.lemmas.List.{drop-take, length-drop, length-take, length-take-le, take-append-drop, take-take}
use Rattle.std.proofs.lemmas.Bool.{ltb-true}
use Rattle.std.proofs.lemmas.Nat.{from_be_bytes-to_be_bytes_2}
use Rattle.std.specs.declared.net.ip_addr.IpAddr.{IpAddr}
use Rattle.krb_codec.specs.Grammar.{Spells}
use Rattle.krb_codec.proofs.CompleteLemmas.{no_prefix, same_or_not}
use Rattle.krb_der.specs.Types.{krb_priv}
use Rattle.krb_der.specs.Values.{krb_priv_value}
use Rattle.krb_der.specs.declared.krb_priv.KrbPriv.{KrbPriv}
use Rattle.krb_codec.specs.declared.numbers.SeqNumber.{SeqNumber}
use Rattle.krb_keys.specs.declared.key.Key.{Key}
use Rattle.krb_msgs.specs.Checks.{goes_on, of_none, of_one, stops}
use Rattle.krb_msgs.specs.ApExchange.{OpensAp}
use Rattle.krb_msgs.specs.PrivateMessages.{OpensPriv}
use Rattle.krb_msgs.specs.declared.private_message.Strictness.{Strictness}
use Rattle.krb_msgs.specs.declared.service_keys.ServiceKey.{ServiceKey}
use Rattle.krb_msgs.specs.declared.ap_exchange.ApOpened.{ApOpened}
use Rattle.krb_msgs.specs.declared.fault.ApFault.{ApFault}
use Rattle.krb_msgs.specs.declared.private_message.Private.{Private}
use Rattle.krb_msgs.specs.declared.fault.PrivFault.{PrivFault}
use Rattle.krb_msgs.specs.declared.fault.PrivFault.TheVariants as priv
use Rattle.krb_msgs.proofs.AnswerLemmas.{err_is, ok_err}
use Rattle.chpw_endpoints.specs.declared.endpoints.Endpoints.{Endpoints}
use Rattle.chpw_frame.specs.declared.fault.FrameFault.{FrameFault}
use Rattle.chpw_frame.specs.declared.fault.FrameFault.TheVariants.{BadLength, BadParts}
use Rattle.chpw_frame.specs.Framing.{ap_length_of, ap_of, first_fault, is_past_end, is_whole, number_at, request_versions, tail_of, version_of}
use Rattle.chpw_frame.specs.Stream.{longest}
use Rattle.chpw_frame.proofs.Tests.{is_below, is_same, not_below, not_below_is}
use Rattle.chpw_serve.specs.Requests.{Opens, Request, bad_data, opened}
use Rattle.chpw_messages.specs.Opening.{IsContent, OpensAs, OpensFramed, OpensParts, OpensTo, request_of, stamp_in}
use Rattle.chpw_messages.specs.Prefixes.{KrbPrivsFollow, PrefixesOpen, cut_short, shortened}
use Rattle.chpw_frame.proofs.FramingLemmas.{cleared, neither}

-- ---- the KRB-PRIV

-- one that is cut short is none
none_left : (strictness : Strictness) (local : IpAddr) (subkey : Key) (seq_number : Option SeqNumber) (tail : List ℕ) (k : ℕ) (m : KrbPriv)
    → Spells krb_priv tail (krb_priv_value m) → k < length tail
    → OpensPriv strictness local subkey seq_number (take k tail) (Err priv.Malformed)
unfolding OpensPriv
none_left strictness local subkey seq_number tail k m h lt =
    stops priv.Malformed
    (of_none (λ (x : KrbPriv) spelled.
    let whole : Spells krb_priv (take k tail ++ drop k tail) (krb_priv_value m) =
    subst (λ (t : List ℕ). Spells krb_priv t (krb_priv_value m)) (sym (take-append-drop k tail)) h in
    let none = ap length (no_prefix krb_priv refl (take k tail) (drop k tail) (krb_priv_value x) (krb_priv_value m) spelled whole) in
    let left = length-drop k tail in
    absurd (omega (arith, none, left, lt))) refl) refl

abbrev without_content : Request → Request
without_content q = record q { stamp = None; content = bad_data }

pub request_is : (q r : Request) → opened q ≡ opened r → q ≡ r
request_is q r h = cc

-- the same AP-REQ with less of a KRB-PRIV after it
less_opens : (strictness : Strictness) (local : IpAddr) (realm : List ℕ) (version : ℕ) (tail : List ℕ) (k : ℕ) (m : KrbPriv)
    (a : Result ApOpened ApFault) (q : Request) → Spells krb_priv tail (krb_priv_value m) → k < length tail
    → OpensAs strictness local realm version tail a (opened q) → OpensAs strictness local realm version (take k tail) a (opened (without_content q))
less_opens strictness local realm version tail k m (Err fault) q spelled lt h = absurd cc
less_opens strictness local realm version tail k m (Ok a) q spelled lt h = (
  Err priv.Malformed,
  none_left strictness local a.subkey a.seq_number tail k m spelled lt,
  (bad_data, refl, ap (λ (r : Request). opened (without_content r)) (request_is q (request_of local a (stamp_in h.0) h.2.0) h.2.2)),
)

-- what is refused as anything but malformed is one
is_krb_priv : (strictness : Strictness) (local : IpAddr) (subkey : Key) (seq_number : Option SeqNumber) (tail : List ℕ) (private : Result Private PrivFault)
    → OpensPriv strictness local subkey seq_number tail private → (private ≡ Err priv.Malformed → ⊥)
    → (m : KrbPriv) × Spells krb_priv tail (krb_priv_value m)
unfolding OpensPriv
is_krb_priv strictness local subkey seq_number tail private (goes_on m (of_one x h e) rest) other = (x, h)
is_krb_priv strictness local subkey seq_number tail private (goes_on m (of_none h e) rest) other = absurd (ok_err e)
is_krb_priv strictness local subkey seq_number tail private (stops f (of_one x h e) is) other = absurd (ok_err (sym e))
is_krb_priv strictness local subkey seq_number tail private (stops f (of_none h e) is) other =
    absurd (other (is ∙ ap (λ (g : PrivFault). Err g) (err_is f priv.Malformed e)))

follows : (strictness : Strictness) (local : IpAddr) (realm : List ℕ) (version : ℕ) (tail : List ℕ) (a : Result ApOpened ApFault) (q : Request)
    → OpensAs strictness local realm version tail a (opened q) → (q.content ≡ bad_data → ⊥)
    → (m : KrbPriv) × Spells krb_priv tail (krb_priv_value m)
follows strictness local realm version tail (Err fault) q h other = absurd cc
follows strictness local realm version tail (Ok a) q h other =
    let same : q.content ≡ h.2.0 = ap (λ (r : Request). r.content) (request_is q (request_of local a (stamp_in h.0) h.2.0) h.2.2) in
    is_krb_priv strictness local a.subkey a.seq_number tail h.0 h.1
    (λ bad. other (same ∙ subst (λ (p : Result Private PrivFault). IsContent realm version p h.2.0) bad h.2.1))

-- ---- the frame, and the message

-- less than a header
no_header : (n : ℕ) (bytes : List ℕ) → n < 6 → first_fault request_versions false (shortened n bytes) ≡ Some BadLength
no_header n bytes lt =
    let size = length-take n (to_be_bytes w16 n ++ drop 2 bytes) in
    let short : nat_lt (length (shortened n bytes)) 6 ≡ true = is_below _ _ (omega (arith, size, lt)) in
    rw short refl

pub opens_so : (strictness : Strictness) (realm : List ℕ) (keys : List ServiceKey) (ends : Endpoints) (bytes : List ℕ) (o : Opens) (f : Option FrameFault)
    → first_fault request_versions false bytes ≡ f → OpensFramed strictness realm keys ends bytes f o → OpensTo strictness realm keys ends bytes o
opens_so strictness realm keys ends bytes o f is h = subst (λ (g : Option FrameFault). OpensFramed strictness realm keys ends bytes g o) (sym is) h

-- a request has no fault
pub opened_has_none : (strictness : Strictness) (realm : List ℕ) (keys : List ServiceKey) (ends : Endpoints) (bytes : List ℕ) (q : Request)
    (f : Option FrameFault)
    → first_fault request_versions false bytes ≡ f → OpensFramed strictness realm keys ends bytes f (opened q)
    → (first_fault request_versions false bytes ≡ None) × OpensParts strictness realm keys ends (version_of bytes) (ap_of bytes) (tail_of bytes) (opened q)
opened_has_none strictness realm keys ends bytes q (Some fault) is h = absurd cc
opened_has_none strictness realm keys ends bytes q None is h = (is, h)

pub krb_privs_follow : KrbPrivsFollow
krb_privs_follow strictness realm keys ends bytes q h other =
    let parts = (opened_has_none strictness realm keys ends bytes q _ refl h).1 in
    follows strictness ends.local realm (version_of bytes) (tail_of bytes) parts.0 q parts.2 other

-- so many more than a header
abbrev six : ℕ → ℕ
six m = suc (suc (suc (suc (suc (suc m)))))

-- a header, and what is left of the rest
module _ (hi lo c d e f : ℕ) (rest : List ℕ) (m : ℕ) (le : m ≤ length rest) where
  abbrev whole : List ℕ
  whole = hi ∷ lo ∷ c ∷ d ∷ e ∷ f ∷ rest

  abbrev left : List ℕ
  left = shortened (six m) whole

  size : length left ≡ six m
  size = ap six (length-take-le m rest le)

  -- its one fault is an AP-REQ that is cut
  fault_of_left : six m ≤ longest → first_fault request_versions false whole ≡ None
      → first_fault request_versions false left ≡ (if nat_lt (six m) (6 + ap_length_of whole) then Some BadParts else None)
  fault_of_left fit none =
      let clear = cleared (is_whole whole) (list_any (λ (v : ℕ). v == version_of whole) request_versions)
      ((true && (ap_length_of whole == 0)) || is_past_end whole) none in
      let some_ap = (neither (ap_length_of whole == 0) (is_past_end whole) clear.2).0 in
      let header : nat_lt (length left) 6 ≡ false = not_below (length left) 6 (omega (arith, size)) in
      let stated = is_same (number_at left 0) (length left) (from_be_bytes-to_be_bytes_2 (six m) (omega (arith, fit)) ∙ sym size) in
      let past : is_past_end left ≡ nat_lt (six m) (6 + ap_length_of whole) = ap (λ (n : ℕ). nat_lt n (6 + ap_length_of whole)) size in
      rw (header, stated, clear.1, some_ap, past) refl

  same_ap : ap_length_of whole ≤ m → ap_of left ≡ ap_of whole
  same_ap enough = take-take (ap_length_of whole) m rest enough

  less_tail : ap_length_of whole ≤ m → tail_of left ≡ take (m - ap_length_of whole) (tail_of whole)
  less_tail enough =
      ap (λ (n : ℕ). drop (ap_length_of whole) (take n rest)) (let e : m ≡ ap_length_of whole + (m - ap_length_of whole) = omega (arith, enough) in e)
      ∙ drop-take (ap_length_of whole) (m - ap_length_of whole) rest

  -- it opens to what is cut short
  left_opens : (strictness : Strictness) (realm : List ℕ) (keys : List ServiceKey) (ends : Endpoints) (q : Request) (k : KrbPriv)
      → m < length rest → six m ≤ longest
      → OpensTo strictness realm keys ends whole (opened q) → Spells krb_priv (tail_of whole) (krb_priv_value k)
      → OpensTo strictness realm keys ends left (cut_short (six m) whole q)
  left_opens strictness realm keys ends q k lt fit h spelled =
      let is = opened_has_none strictness realm keys ends whole q _ refl h in
      let fault = fault_of_left fit is.0 in
      let header : nat_lt (six m) 6 ≡ false = not_below (six m) 6 (omega arith) in
      elim (same_or_not (nat_lt (six m) (6 + ap_length_of whole))) [
        | inl cut ↦ opens_so strictness realm keys ends left _ (Some BadParts) (fault ∙ rw cut refl) (rw (header, cut) refl)
        | inr enough ↦
            let ap_le : ap_length_of whole ≤ m = (let n = not_below_is _ _ enough in omega (arith, n)) in
            let behind = length-drop (ap_length_of whole) rest in
            let parts = is.1 in
            let less = less_opens strictness ends.local realm (version_of whole) (tail_of whole)
            (m - ap_length_of whole) k parts.0 q spelled (omega (arith, behind, ap_le, lt)) parts.2 in
            let opens : OpensParts strictness realm keys ends (version_of whole) (ap_of left) (tail_of left) (opened (without_content q)) = (
              parts.0,
              subst (λ (b : List ℕ). OpensAp realm keys b ends.peer parts.0) (sym (same_ap ap_le)) parts.1,
              subst (λ (b : List ℕ). OpensAs strictness ends.local realm (version_of whole) b parts.0 (opened (without_content q)))
                  (sym (less_tail ap_le)) less,
            ) in
            opens_so strictness realm keys ends left _ None (fault ∙ rw enough refl) (rw (header, enough) opens)
      ]

-- at least a header
more_than_header : (strictness : Strictness) (realm : List ℕ) (keys : List ServiceKey) (ends : Endpoints) (bytes : List ℕ) (q : Request) (m : KrbPriv) (k : ℕ)
    → OpensTo strictness realm keys ends bytes (opened q) → Spells krb_priv (tail_of bytes) (krb_priv_value m)
    → length bytes ≤ longest → six k < length bytes
    → OpensTo strictness realm keys ends (shortened (six k) bytes) (cut_short (six k) bytes q)
more_than_header strictness realm keys ends (hi ∷ lo ∷ c ∷ d ∷ e ∷ f ∷ rest) q m k h spelled fit lt =
    left_opens hi lo c d e f rest k (omega (arith, lt)) strictness realm keys ends q m (omega (arith, lt)) (omega (arith, fit, lt)) h spelled
more_than_header strictness realm keys ends bytes q m k h spelled fit lt = absurd (omega (arith, lt))

pub prefixes_open : PrefixesOpen
prefixes_open strictness realm keys ends bytes q m n h spelled fit lt =
    elim (same_or_not (nat_lt n 6)) [
      | inl short ↦
          let below : n < 6 = (let b = ltb-true n 6 short in b) in
          opens_so strictness realm keys ends (shortened n bytes) _ (Some BadLength) (no_header n bytes below) (rw short refl)
      | inr long ↦
          let le = not_below_is n 6 long in
          let same : six (n - 6) ≡ n = omega (arith, le) in
          subst (λ (k : ℕ). OpensTo strictness realm keys ends (shortened k bytes) (cut_short k bytes q)) same
          (more_than_header strictness realm keys ends bytes q m (n - 6) h spelled fit (omega (arith, lt, le)))
    ]
