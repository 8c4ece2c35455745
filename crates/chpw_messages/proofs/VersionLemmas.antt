-- What the rule for versions comes to.
use Rattle.std.proofs.Common.{◌≡◌, ◌≢◌, ℕ, List, Bool, true, false, not, ◌&&◌, Option, Some, None, refl, sym, ◌∙◌, ap, subst}
use Rattle.std.specs.Prelude.{◌==◌}
use Rattle.std.proofs.lemmas.Bool.{eq-eqb, eqb-true, ne_eqb}
use Rattle.krb_protocol.specs.Refusals.{Refusal, said}
use Rattle.krb_protocol.specs.declared.refusal.Refusal.{Refusal as ProgramRefusal}
use Rattle.krb_msgs.specs.OneAnswer.{AreProtocolKeys, IsOne}
use Rattle.krb_msgs.specs.declared.private_message.Strictness.{Strictness}
use Rattle.krb_msgs.specs.declared.service_keys.ServiceKey.{ServiceKey}
use Rattle.chpw_endpoints.specs.declared.endpoints.Endpoints.{Endpoints}
use Rattle.chpw_frame.specs.declared.fault.FrameFault.{FrameFault}
use Rattle.chpw_frame.specs.declared.fault.FrameFault.TheVariants.{BadLength, BadVersion}
use Rattle.chpw_frame.specs.Faults as frame
use Rattle.chpw_frame.specs.Framing.{first_fault, is_whole, request_version, request_versions, version_of}
use Rattle.chpw_table.specs.Replies.{by_error}
use Rattle.chpw_serve.specs.declared.messages.OpenResult as program
use Rattle.chpw_serve.specs.declared.messages.OpenResult.TheVariants as found
use Rattle.chpw_serve.specs.Requests.{Request, opened, refused}
use Rattle.chpw_messages.specs.declared.versions.Acceptance.{Acceptance}
use Rattle.chpw_messages.specs.declared.versions.Versions.{Versions}
use Rattle.chpw_messages.specs.declared.versions.Versions.TheVariants.{Both, Rfc3244Only}
use Rattle.chpw_messages.specs.Holds.{HoldsMessage, HoldsUnder}
use Rattle.chpw_messages.specs.Opening.{OpensFramed}
use Rattle.chpw_messages.specs.Versions.{OpensUnless, bad_version, is_of_another, refuses}
use Rattle.chpw_messages.specs.VersionLaws.{AllStay, ItsOwnStay, MessagesOpenOnceUnder, OthersAddNothing, OthersAreRefused, RequestsAreOfIt}
use Rattle.chpw_messages.proofs.OneOpeningLemmas.{messages_open_once}

-- ---- what the program has

pub holds_refused : (accepts : Acceptance) (realm : List ℕ) (keys : List ServiceKey) (ends : Endpoints) (bytes : List ℕ) (r : ProgramRefusal)
    → refuses accepts.versions bytes ≡ true → said r ≡ frame.refusal_of BadVersion
    → HoldsUnder accepts realm keys ends bytes (found.Refused r)
holds_refused accepts realm keys ends bytes r e is = (
  bad_version,
  subst (λ (b : Bool). OpensUnless accepts.messages b realm keys ends bytes bad_version) (sym e) refl,
  ap (λ (s : Refusal). by_error s.code s.error s.text) (sym is),
)

pub holds_opened : (accepts : Acceptance) (realm : List ℕ) (keys : List ServiceKey) (ends : Endpoints) (bytes : List ℕ) (r : program.OpenResult)
    → refuses accepts.versions bytes ≡ false → HoldsMessage accepts.messages realm keys ends bytes r → HoldsUnder accepts realm keys ends bytes r
holds_opened accepts realm keys ends bytes r e h =
    (h.0, subst (λ (b : Bool). OpensUnless accepts.messages b realm keys ends bytes h.0) (sym e) h.1, h.2)

-- ---- the laws

-- whole, and of another version
is_another : (bytes : List ℕ) → is_whole bytes ≡ true → version_of bytes ≢ request_version → is_of_another bytes ≡ true
is_another bytes whole other = rw (whole, ne_eqb (version_of bytes) request_version other) refl

pub others_are_refused : OthersAreRefused
others_are_refused messages realm keys ends bytes o whole other h =
    subst (λ (b : Bool). OpensUnless messages b realm keys ends bytes o) (is_another bytes whole other) h

-- a message of another length is no request
no_request : (messages : Strictness) (realm : List ℕ) (keys : List ServiceKey) (ends : Endpoints) (bytes : List ℕ) (q : Request) (f : Option FrameFault)
    → f ≡ Some BadLength → OpensFramed messages realm keys ends bytes f (opened q) → ⊥
no_request messages realm keys ends bytes q None e h = cc
no_request messages realm keys ends bytes q (Some fault) e h = cc

of_it : (messages : Strictness) (realm : List ℕ) (keys : List ServiceKey) (ends : Endpoints) (bytes : List ℕ) (q : Request) (whole its : Bool)
    → is_whole bytes ≡ whole → (version_of bytes == request_version) ≡ its
    → OpensUnless messages (whole && not its) realm keys ends bytes (opened q) → version_of bytes ≡ request_version
of_it messages realm keys ends bytes q whole true is same h = eqb-true (version_of bytes) request_version same
of_it messages realm keys ends bytes q true false is same h = absurd (let bad : opened q ≡ bad_version = h in cc)
of_it messages realm keys ends bytes q false false is same h =
    absurd (no_request messages realm keys ends bytes q (first_fault request_versions false bytes) (rw is refl) h)

pub requests_are_of_it : RequestsAreOfIt
requests_are_of_it messages realm keys ends bytes q h =
    of_it messages realm keys ends bytes q (is_whole bytes) (version_of bytes == request_version) refl refl h

pub others_add_nothing : (full : Type 0) → OthersAddNothing full
others_add_nothing full messages error_frame private_frame realm keys ends bytes words reply now old new (refused a) other h answered = answered.0
others_add_nothing full messages error_frame private_frame realm keys ends bytes words reply now old new (opened q) other h answered =
    absurd (other (requests_are_of_it messages realm keys ends bytes q h))

nothing_else : (b : Bool) → (b && false) ≡ false
nothing_else true = refl
nothing_else false = refl

not_refused : (versions : Versions) (bytes : List ℕ) → version_of bytes ≡ request_version → refuses versions bytes ≡ false
not_refused Both bytes its = refl
not_refused Rfc3244Only bytes its = rw (eq-eqb (version_of bytes) request_version its) (nothing_else (is_whole bytes))

pub its_own_stay : ItsOwnStay
its_own_stay accepts realm keys ends bytes o its =
    let e = not_refused accepts.versions bytes its in (
      λ h. subst (λ (b : Bool). OpensUnless accepts.messages b realm keys ends bytes o) e h,
      λ h. subst (λ (b : Bool). OpensUnless accepts.messages b realm keys ends bytes o) (sym e) h,
    )

pub all_stay : AllStay
all_stay messages realm keys ends bytes o = (λ h. h, λ h. h)

once : (messages : Strictness) (realm : List ℕ) (keys : List ServiceKey) (ends : Endpoints) (bytes : List ℕ) (b : Bool) → AreProtocolKeys keys
    → IsOne (OpensUnless messages b realm keys ends bytes)
once messages realm keys ends bytes true are one other h k = h ∙ sym k
once messages realm keys ends bytes false are one other h k = messages_open_once messages realm keys ends bytes are one other h k

pub messages_open_once_under : MessagesOpenOnceUnder
messages_open_once_under accepts realm keys ends bytes are = once accepts.messages realm keys ends bytes (refuses accepts.versions bytes) are
