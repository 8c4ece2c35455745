-- A set, changed on the way into a request of the earlier protocol, changes no key. The version is what RFC 3244
-- section 2 leaves open to that: no encrypted part covers it.
use Rattle.std.specs.Prelude.{◌≡◌, ℕ, List, ◌++◌, Bool, take, drop, Some, Ok}
use Rattle.std.specs.Int.{to_be_bytes, w16}
use Rattle.krb_msgs.specs.ApExchange.{OpensAp}
use Rattle.krb_msgs.specs.OneAnswer.{AreProtocolKeys}
use Rattle.krb_msgs.specs.PrivateMessages.{OpensPriv}
use Rattle.krb_msgs.specs.declared.ap_exchange.ApOpened.{ApOpened}
use Rattle.krb_msgs.specs.declared.private_message.Private.{Private}
use Rattle.krb_msgs.specs.declared.private_message.Strictness.{Strictness}
use Rattle.krb_msgs.specs.declared.service_keys.ServiceKey.{ServiceKey}
use Rattle.chpw_endpoints.specs.declared.endpoints.Endpoints.{Endpoints}
use Rattle.chpw_frame.specs.Framing.{ap_of, old_request_version, request_version, tail_of, version_of}
use Rattle.chpw_table.specs.State.{State}
use Rattle.chpw_table.specs.Step.{step}
use Rattle.chpw_table.specs.declared.request.Target.{Target}
use Rattle.chpw_table.specs.declared.times.Moment.{Moment}
use Rattle.chpw_serve.specs.Requests.{Opens, Request, bad_data, new_password, opened, opened_under, refused}
use Rattle.chpw_messages.specs.OldPasswords.{NamesTarget}
use Rattle.chpw_messages.specs.Opening.{OpensTo}
use Rattle.chpw_messages.specs.Versions.{OpensUnder}
use Rattle.chpw_messages.specs.declared.versions.Acceptance.{Acceptance}

-- the same bytes with this version
abbrev pub with_version : ℕ → List ℕ → List ℕ
with_version version bytes = take 2 bytes ++ to_be_bytes w16 version ++ drop 4 bytes

-- its AP-REQ opens, and so does the KRB-PRIV after that, whose user-data names a target
abbrev pub IsTargeted : Strictness → List ℕ → List ServiceKey → Endpoints → List ℕ → Type 0
IsTargeted strictness realm keys ends bytes =
    (a : ApOpened) × OpensAp realm keys (ap_of bytes) ends.peer (Ok a)
    × ((p : Private) × OpensPriv strictness ends.local a.subkey a.seq_number (tail_of bytes) (Ok p) × NamesTarget p.user_bytes)

-- so is each request of RFC 3244 that asks for a target's new password
abbrev pub SetsAreTargeted : Type 0
SetsAreTargeted = (strictness : Strictness) (realm : List ℕ) (keys : List ServiceKey) (ends : Endpoints) (bytes : List ℕ) (q : Request)
    (target : Target) (password : List ℕ)
    → OpensTo strictness realm keys ends bytes (opened q) → version_of bytes ≡ request_version
    → q.content ≡ new_password (Some target) password
    → IsTargeted strictness realm keys ends bytes

-- Nothing of it is decided; or it is decided as a request with bad data, which leaves all principals, in every state, at
-- every moment, with whichever keys derived, whether or not an append fails.
abbrev pub ChangesNoKey : Opens → Type 0
ChangesNoKey (refused answer) = Unit {0}
ChangesNoKey (opened q) =
    (q.content ≡ bad_data)
    × ((s : State) (now : Moment) (counts : List ℕ) (io : Bool)
    → (step s now (opened_under counts q) io).principals ≡ s.principals)

-- whatever such a message opens to in the earlier protocol, for a service that answers it or doesn't
abbrev pub FlippedSetsChangeNoKey : Type 0
FlippedSetsChangeNoKey = (accepts : Acceptance) (realm : List ℕ) (keys : List ServiceKey) (ends : Endpoints) (bytes : List ℕ) (o : Opens)
    → AreProtocolKeys keys → IsTargeted accepts.messages realm keys ends bytes
    → OpensUnder accepts realm keys ends (with_version old_request_version bytes) o
    → ChangesNoKey o

-- to one that does, it is the request that it was, with bad data
abbrev pub FlippedSetsAreBadData : Type 0
FlippedSetsAreBadData = (strictness : Strictness) (realm : List ℕ) (keys : List ServiceKey) (ends : Endpoints) (bytes : List ℕ) (q : Request)
    → AreProtocolKeys keys → IsTargeted strictness realm keys ends bytes
    → OpensTo strictness realm keys ends bytes (opened q)
    → OpensTo strictness realm keys ends (with_version old_request_version bytes) (opened (record q { content = bad_data }))
