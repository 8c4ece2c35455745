-- Strict messages: a KRB-PRIV that isn't strict is refused, and each other opens as it does without them.
use Rattle.std.specs.Prelude.{◌≡◌, ◌⊎◌, ℕ, List, true, false, Option, Ok, Err, Result}
use Rattle.std.specs.declared.net.ip_addr.IpAddr.{IpAddr}
use Rattle.krb_keys.specs.Keys.{IsProtocolKey}
use Rattle.krb_keys.specs.KeyUsages.{usage_krb_priv}
use Rattle.krb_keys.specs.declared.key.Key.{Key}
use Rattle.krb_codec.specs.declared.numbers.SeqNumber.{SeqNumber}
use Rattle.krb_der.specs.Types.{krb_priv, enc_krb_priv_part}
use Rattle.krb_der.specs.Values.{krb_priv_value, enc_krb_priv_part_value}
use Rattle.krb_der.specs.declared.krb_priv.KrbPriv.{KrbPriv}
use Rattle.krb_der.specs.declared.krb_priv.EncKrbPrivPart.{EncKrbPrivPart}
use Rattle.krb_msgs.specs.Parts.{Reads, OpensPart}
use Rattle.krb_msgs.specs.PrivateMessages.{IsPrivate, OpensPriv, meets}
use Rattle.krb_msgs.specs.declared.private_message.Private.{Private}
use Rattle.krb_msgs.specs.declared.private_message.Strictness.TheVariants.{Lenient, Strict}
use Rattle.krb_msgs.specs.declared.fault.PrivFault.{PrivFault}
use Rattle.krb_msgs.specs.declared.fault.PrivFault.TheVariants as fault

-- a KRB-PRIV that seals this part under the subkey
abbrev pub HasPart : Key → List ℕ → EncKrbPrivPart → Type 0
HasPart subkey bytes part =
    (m : KrbPriv) × Reads krb_priv krb_priv_value bytes fault.Malformed (Ok m) × IsPrivate m
    × OpensPart enc_krb_priv_part enc_krb_priv_part_value subkey usage_krb_priv m.enc_part
    fault.NotSealed fault.Malformed (Ok part)

-- refused for its sequence number, or for what strict messages ask
abbrev pub IsRefusedPart : Result Private PrivFault → Type 0
IsRefusedPart answer = (answer ≡ Err fault.WrongSeqNumber) ⊎ (answer ≡ Err fault.Loose)

abbrev pub LoosePrivsAreRefused : Type 0
LoosePrivsAreRefused = (local : IpAddr) (subkey : Key) (seq_number : Option SeqNumber) (bytes : List ℕ) (part : EncKrbPrivPart)
    (answer : Result Private PrivFault)
    → IsProtocolKey subkey → HasPart subkey bytes part → meets Strict local seq_number part ≡ false
    → OpensPriv Strict local subkey seq_number bytes answer → IsRefusedPart answer

-- what isn't refused so is answered as it is without strict messages
abbrev pub StrictPrivsOpen : Type 0
StrictPrivsOpen = (local : IpAddr) (subkey : Key) (seq_number : Option SeqNumber) (bytes : List ℕ) (answer : Result Private PrivFault)
    → OpensPriv Strict local subkey seq_number bytes answer
    → OpensPriv Lenient local subkey seq_number bytes answer ⊎ (answer ≡ Err fault.Loose)

-- and what has no part that isn't strict is answered alike
abbrev pub OtherPrivsOpenAlike : Type 0
OtherPrivsOpenAlike = (local : IpAddr) (subkey : Key) (seq_number : Option SeqNumber) (bytes : List ℕ) (answer : Result Private PrivFault)
    → ((part : EncKrbPrivPart) → HasPart subkey bytes part → meets Strict local seq_number part ≡ true)
    → (OpensPriv Strict local subkey seq_number bytes answer → OpensPriv Lenient local subkey seq_number bytes answer)
    × (OpensPriv Lenient local subkey seq_number bytes answer → OpensPriv Strict local subkey seq_number bytes answer)
