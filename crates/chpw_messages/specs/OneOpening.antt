-- A message opens to one answer only, so that a message that is refused is no request, and a request asks one thing.
use Rattle.std.specs.Prelude.{ℕ, List}
use Rattle.krb_msgs.specs.OneAnswer.{AreProtocolKeys, IsOne}
use Rattle.krb_msgs.specs.declared.service_keys.ServiceKey.{ServiceKey}
use Rattle.krb_msgs.specs.declared.private_message.Strictness.{Strictness}
use Rattle.chpw_endpoints.specs.declared.endpoints.Endpoints.{Endpoints}
use Rattle.chpw_messages.specs.Opening.{OpensTo}

-- for a service whose keys have as many bytes as their encryption types say
abbrev pub MessagesOpenOnce : Type 0
MessagesOpenOnce = (strictness : Strictness) (realm : List ℕ) (keys : List ServiceKey) (ends : Endpoints) (bytes : List ℕ)
    → AreProtocolKeys keys → IsOne (OpensTo strictness realm keys ends bytes)
