-- A service whose messages have to be strict refuses a KRB-PRIV that isn't as a bad one, and opens each other message as
-- a service whose needn't be.
use Rattle.std.specs.Prelude.{◌≡◌, ℕ, List, true, false, None, Ok}
use Rattle.krb_der.specs.declared.krb_priv.EncKrbPrivPart.{EncKrbPrivPart}
use Rattle.krb_msgs.specs.ApExchange.{OpensAp}
use Rattle.krb_msgs.specs.OneAnswer.{AreProtocolKeys}
use Rattle.krb_msgs.specs.PrivateMessages.{meets}
use Rattle.krb_msgs.specs.StrictLaws.{HasPart}
use Rattle.krb_msgs.specs.declared.ap_exchange.ApOpened.{ApOpened}
use Rattle.krb_msgs.specs.declared.private_message.Strictness.TheVariants.{Lenient, Strict}
use Rattle.krb_msgs.specs.declared.service_keys.ServiceKey.{ServiceKey}
use Rattle.chpw_endpoints.specs.declared.endpoints.Endpoints.{Endpoints}
use Rattle.chpw_frame.specs.Framing.{ap_of, first_fault, request_versions, tail_of}
use Rattle.chpw_serve.specs.Requests.{Opens, Request, bad_private, opened}
use Rattle.chpw_messages.specs.Opening.{OpensTo, request_of}

-- a message whose AP-REQ opens, and whose KRB-PRIV has a part that isn't strict, is a request with a bad KRB-PRIV
abbrev pub LooseMessagesAreBadPrivate : Type 0
LooseMessagesAreBadPrivate = (realm : List ℕ) (keys : List ServiceKey) (ends : Endpoints) (bytes : List ℕ) (a : ApOpened)
    (part : EncKrbPrivPart) (o : Opens)
    → AreProtocolKeys keys → first_fault request_versions false bytes ≡ None
    → OpensAp realm keys (ap_of bytes) ends.peer (Ok a) → HasPart a.subkey (tail_of bytes) part
    → meets Strict ends.local a.seq_number part ≡ false
    → OpensTo Strict realm keys ends bytes o → o ≡ opened (request_of ends.local a None bad_private)

-- a request that has anything else asks the same without
abbrev pub StrictMessagesOpen : Type 0
StrictMessagesOpen = (realm : List ℕ) (keys : List ServiceKey) (ends : Endpoints) (bytes : List ℕ) (q : Request)
    → OpensTo Strict realm keys ends bytes (opened q) → (q.content ≡ bad_private → ⊥)
    → OpensTo Lenient realm keys ends bytes (opened q)

-- and a message without such a part opens alike
abbrev pub OtherMessagesOpenAlike : Type 0
OtherMessagesOpenAlike = (realm : List ℕ) (keys : List ServiceKey) (ends : Endpoints) (bytes : List ℕ) (o : Opens)
    → ((a : ApOpened) (part : EncKrbPrivPart) → OpensAp realm keys (ap_of bytes) ends.peer (Ok a)
    → HasPart a.subkey (tail_of bytes) part → meets Strict ends.local a.seq_number part ≡ true)
    → (OpensTo Strict realm keys ends bytes o → OpensTo Lenient realm keys ends bytes o)
    × (OpensTo Lenient realm keys ends bytes o → OpensTo Strict realm keys ends bytes o)
