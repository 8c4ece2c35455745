-- A message opens to one answer: a relation allows one answer only.
use Rattle.std.specs.Prelude.{◌≡◌, ℕ, List, Option}
use Rattle.std.specs.List.{AllByRecursion}
use Rattle.std.specs.declared.net.ip_addr.IpAddr.{IpAddr}
use Rattle.krb_keys.specs.Keys.{IsProtocolKey}
use Rattle.krb_keys.specs.declared.key.Key.{Key}
use Rattle.krb_codec.specs.declared.kerberos_time.KerberosTime.{KerberosTime}
use Rattle.krb_codec.specs.declared.numbers.Microseconds.{Microseconds}
use Rattle.krb_codec.specs.declared.numbers.SeqNumber.{SeqNumber}
use Rattle.krb_msgs.specs.ApExchange.{OpensAp}
use Rattle.krb_msgs.specs.PrivateMessages.{OpensPriv}
use Rattle.krb_msgs.specs.Replies.{OpensReply}
use Rattle.krb_msgs.specs.declared.private_message.Strictness.{Strictness}
use Rattle.krb_msgs.specs.declared.service_keys.ServiceKey.{ServiceKey}

abbrev pub IsOne : {A : Type 0} → (A → Type 0) → Type 0
IsOne {A} fact = (one other : A) → fact one → fact other → one ≡ other

-- each key has as many bytes as its encryption type says
abbrev pub AreProtocolKeys : List ServiceKey → Type 0
AreProtocolKeys keys = AllByRecursion (λ (k : ServiceKey). IsProtocolKey k.key) keys

abbrev pub ApReqsOpenOnce : Type 0
ApReqsOpenOnce = (realm : List ℕ) (keys : List ServiceKey) (bytes : List ℕ) (peer : IpAddr)
    → AreProtocolKeys keys → IsOne (OpensAp realm keys bytes peer)

abbrev pub PrivsOpenOnce : Type 0
PrivsOpenOnce = (strictness : Strictness) (local : IpAddr) (subkey : Key) (seq_number : Option SeqNumber) (bytes : List ℕ)
    → IsProtocolKey subkey → IsOne (OpensPriv strictness local subkey seq_number bytes)

abbrev pub RepliesOpenOnce : Type 0
RepliesOpenOnce = (session subkey : Key) (ctime : KerberosTime) (cusec : Microseconds)
    (bytes tail : List ℕ) → IsProtocolKey session → IsProtocolKey subkey
    → IsOne (OpensReply session subkey ctime cusec bytes tail)
