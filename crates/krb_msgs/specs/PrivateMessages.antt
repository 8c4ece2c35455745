-- What a KRB-PRIV opens to (RFC 4120 section 3.5.2): the checks in their order.
use Rattle.std.specs.Prelude.{◌≡◌, ◌&&◌, ◌||◌, ℕ, List, Bool, true, Option, Some, None, Result, is_none, option_map}
use Rattle.std.specs.Option.{is_some}
use Rattle.std.specs.declared.net.ip_addr.IpAddr.{IpAddr}
use Rattle.krb_keys.specs.declared.key.Key.{Key}
use Rattle.krb_keys.specs.KeyUsages.{usage_krb_priv}
use Rattle.krb_protocol.specs.Numbers as protocol
use Rattle.krb_der.specs.Types.{krb_priv, enc_krb_priv_part}
use Rattle.krb_der.specs.Values.{krb_priv_value, enc_krb_priv_part_value}
use Rattle.krb_der.specs.declared.krb_priv.KrbPriv.{KrbPriv}
use Rattle.krb_der.specs.declared.krb_priv.EncKrbPrivPart.{EncKrbPrivPart}
use Rattle.krb_codec.specs.declared.numbers.SeqNumber.{SeqNumber}
use Rattle.krb_codec.specs.declared.kerberos_time.KerberosTime.{KerberosTime}
use Rattle.krb_der.specs.declared.host_address.HostAddress.{HostAddress}
use Rattle.krb_msgs.specs.Addresses.{is_host}
use Rattle.krb_msgs.specs.Checks.{Held, Then, Passed}
use Rattle.krb_msgs.specs.Parts.{Reads, OpensPart}
use Rattle.krb_msgs.specs.declared.private_message.Private.{Private}
use Rattle.krb_msgs.specs.declared.private_message.Strictness.{Strictness}
use Rattle.krb_msgs.specs.declared.private_message.Strictness.TheVariants.{Lenient, Strict}
use Rattle.krb_msgs.specs.declared.fault.PrivFault.{PrivFault}
use Rattle.krb_msgs.specs.declared.fault.PrivFault.TheVariants as fault

-- version and message type (section 5.7.1)
abbrev pub IsPrivate : KrbPriv → Type 0
IsPrivate m = (m.pvno ≡ protocol.pvno) × (m.msg_type ≡ protocol.krb_priv)

-- the sequence numbers of authenticator and message are equal, if both are present
abbrev pub MayFollow : Option SeqNumber → Option SeqNumber → Type 0
MayFollow None second = Unit {0}
MayFollow (Some first) None = Unit {0}
MayFollow (Some first) (Some second) = first ≡ second

-- ---- strict messages

-- the sequence number that is expected, since the authenticator has one, is there; with it neither number nor timestamp
-- can be absent
abbrev pub has_expected_number : Option SeqNumber → Option SeqNumber → Bool
has_expected_number first second = is_none first || is_some second

-- microseconds come with a timestamp
abbrev pub has_whole_time : EncKrbPrivPart → Bool
has_whole_time part = is_none part.timestamp || is_some part.usec

-- the recipient is this host, if one is named (section 7.5.3)
abbrev pub is_recipient : IpAddr → Option HostAddress → Bool
is_recipient local None = true
is_recipient local (Some address) = is_host local address

-- what strict messages have to have; without them nothing
abbrev pub meets : Strictness → IpAddr → Option SeqNumber → EncKrbPrivPart → Bool
meets Lenient local first part = true
meets Strict local first part = has_expected_number first part.seq_number && has_whole_time part && is_recipient local part.r_address

-- ---- the message

-- user-data, and the timestamp in seconds
abbrev pub private_of : EncKrbPrivPart → Private
private_of part = record {
  user_bytes = part.user_data;
  stamp = option_map (λ (t : KerberosTime). t.0) part.timestamp;
}

-- arguments: whether messages are strict, the address that they came to, subkey, the authenticator's sequence number, the bytes of the KRB-PRIV
unfoldable pub OpensPriv : Strictness → IpAddr → Key → Option SeqNumber → List ℕ
    → Result Private PrivFault → Type 0
OpensPriv strictness local subkey seq_number bytes =
    Then (Reads krb_priv krb_priv_value bytes fault.Malformed) (λ (m : KrbPriv).
    Held (IsPrivate m) fault.WrongMessage (
    Then (OpensPart enc_krb_priv_part enc_krb_priv_part_value subkey usage_krb_priv m.enc_part
    fault.NotSealed fault.Malformed) (λ (part : EncKrbPrivPart).
    Held (MayFollow seq_number part.seq_number) fault.WrongSeqNumber (
    Held (meets strictness local seq_number part ≡ true) fault.Loose (
    Passed (private_of part))))))
