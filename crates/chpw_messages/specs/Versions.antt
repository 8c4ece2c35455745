-- Which versions of requests a service answers: both, or that of RFC 3244 alone. Where it is that one alone, a message
-- of another version is refused before anything else of it is looked at; no other message opens otherwise.
use Rattle.std.specs.Prelude.{◌≡◌, ℕ, List, Bool, true, false, not, ◌&&◌, ◌==◌}
use Rattle.krb_msgs.specs.declared.service_keys.ServiceKey.{ServiceKey}
use Rattle.krb_msgs.specs.declared.private_message.Strictness.{Strictness}
use Rattle.chpw_endpoints.specs.declared.endpoints.Endpoints.{Endpoints}
use Rattle.chpw_frame.specs.declared.fault.FrameFault.TheVariants.{BadVersion}
use Rattle.chpw_frame.specs.Faults as frame
use Rattle.chpw_frame.specs.Framing.{is_whole, request_version, version_of}
use Rattle.chpw_serve.specs.Requests.{Opens}
use Rattle.chpw_messages.specs.declared.versions.Acceptance.{Acceptance}
use Rattle.chpw_messages.specs.declared.versions.Versions.{Versions}
use Rattle.chpw_messages.specs.declared.versions.Versions.TheVariants.{Both, Rfc3244Only}
use Rattle.chpw_messages.specs.Opening.{OpensTo, refused_by}

-- its length field is its length, so that it has a version, and that isn't 0xff80
abbrev pub is_of_another : List ℕ → Bool
is_of_another bytes = is_whole bytes && not (version_of bytes == request_version)

-- whether a message is refused for its version
abbrev pub refuses : Versions → List ℕ → Bool
refuses Both bytes = false
refuses Rfc3244Only bytes = is_of_another bytes

-- code 6, error 60
abbrev pub bad_version : Opens
bad_version = refused_by (frame.refusal_of BadVersion)

abbrev pub OpensUnless : Strictness → Bool → List ℕ → List ServiceKey → Endpoints → List ℕ → Opens → Type 0
OpensUnless strictness true realm keys ends bytes o = o ≡ bad_version
OpensUnless strictness false realm keys ends bytes o = OpensTo strictness realm keys ends bytes o

-- arguments: what the service accepts, its realm and keys, the peer's address, the message
abbrev pub OpensUnder : Acceptance → List ℕ → List ServiceKey → Endpoints → List ℕ → Opens → Type 0
OpensUnder accepts realm keys ends bytes o =
    OpensUnless accepts.messages (refuses accepts.versions bytes) realm keys ends bytes o
