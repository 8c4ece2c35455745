-- A service that answers requests of RFC 3244 alone refuses all others, decides none of them, and answers its own as
-- a service that answers both.
use Rattle.std.specs.Prelude.{◌≡◌, ◌≢◌, ℕ, List, true}
use Rattle.krb_msgs.specs.declared.private_message.Strictness.{Strictness}
use Rattle.krb_msgs.specs.declared.service_keys.ServiceKey.{ServiceKey}
use Rattle.krb_msgs.specs.OneAnswer.{AreProtocolKeys, IsOne}
use Rattle.chpw_endpoints.specs.declared.endpoints.Endpoints.{Endpoints}
use Rattle.chpw_frame.specs.Framing.{is_whole, request_version, version_of}
use Rattle.chpw_table.specs.declared.times.Moment.{Moment}
use Rattle.chpw_table.specs.declared.history.Receipt.{Receipt}
use Rattle.chpw_table.specs.Replies.{Answer}
use Rattle.chpw_serve.specs.declared.messages.Seal.{Seal}
use Rattle.chpw_serve.specs.Requests.{Opens, Request, opened}
use Rattle.chpw_serve.specs.Answers.{AnswersOpened}
use Rattle.chpw_messages.specs.declared.versions.Acceptance.{Acceptance}
use Rattle.chpw_messages.specs.declared.versions.Versions.TheVariants.{Both, Rfc3244Only}
use Rattle.chpw_messages.specs.Opening.{OpensTo}
use Rattle.chpw_messages.specs.Versions.{OpensUnder, bad_version}

abbrev pub of_rfc3244 : Strictness → Acceptance
of_rfc3244 messages = record { versions = Rfc3244Only; messages = messages }

abbrev pub of_both : Strictness → Acceptance
of_both messages = record { versions = Both; messages = messages }

-- a message of another version is answered `bad version`
abbrev pub OthersAreRefused : Type 0
OthersAreRefused = (messages : Strictness) (realm : List ℕ) (keys : List ServiceKey) (ends : Endpoints) (bytes : List ℕ) (o : Opens)
    → is_whole bytes ≡ true → version_of bytes ≢ request_version
    → OpensUnder (of_rfc3244 messages) realm keys ends bytes o → o ≡ bad_version

-- a request, which is decided, is of that version
abbrev pub RequestsAreOfIt : Type 0
RequestsAreOfIt = (messages : Strictness) (realm : List ℕ) (keys : List ServiceKey) (ends : Endpoints) (bytes : List ℕ) (q : Request)
    → OpensUnder (of_rfc3244 messages) realm keys ends bytes (opened q) → version_of bytes ≡ request_version

-- so an answered message of another version adds no receipt to those of whoever decides, who may be full
abbrev pub OthersAddNothing : Type 0 → Type 0
OthersAddNothing full = (messages : Strictness) (error_frame : Answer → Moment → List ℕ) (private_frame : Seal → Answer → List ℕ → List ℕ)
    (realm : List ℕ) (keys : List ServiceKey) (ends : Endpoints) (bytes words reply : List ℕ) (now : Moment) (old new : List Receipt) (o : Opens)
    → version_of bytes ≢ request_version
    → OpensUnder (of_rfc3244 messages) realm keys ends bytes o
    → AnswersOpened error_frame private_frame full o words now old new reply
    → new ≡ old

-- a message of that version opens as to a service that answers both, and to that one each as Opening has it
abbrev pub ItsOwnStay : Type 0
ItsOwnStay = (accepts : Acceptance) (realm : List ℕ) (keys : List ServiceKey) (ends : Endpoints) (bytes : List ℕ) (o : Opens)
    → version_of bytes ≡ request_version
    → (OpensUnder accepts realm keys ends bytes o → OpensTo accepts.messages realm keys ends bytes o)
    × (OpensTo accepts.messages realm keys ends bytes o → OpensUnder accepts realm keys ends bytes o)

abbrev pub AllStay : Type 0
AllStay = (messages : Strictness) (realm : List ℕ) (keys : List ServiceKey) (ends : Endpoints) (bytes : List ℕ) (o : Opens)
    → (OpensUnder (of_both messages) realm keys ends bytes o → OpensTo messages realm keys ends bytes o)
    × (OpensTo messages realm keys ends bytes o → OpensUnder (of_both messages) realm keys ends bytes o)

-- each message still opens to one answer
abbrev pub MessagesOpenOnceUnder : Type 0
MessagesOpenOnceUnder = (accepts : Acceptance) (realm : List ℕ) (keys : List ServiceKey) (ends : Endpoints) (bytes : List ℕ)
    → AreProtocolKeys keys → IsOne (OpensUnder accepts realm keys ends bytes)
