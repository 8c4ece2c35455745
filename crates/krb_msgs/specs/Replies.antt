-- What a reply of the service says (RFC 3244 section 2): an AP-REP and a KRB-PRIV, or a KRB-ERROR.
use Rattle.std.specs.Prelude.{◌≡◌, ◌≤◌, ℕ, ℤ, List, [], ◌∷◌, length, take, drop, Option, Some, None, Result}
use Rattle.std.specs.Int.{w16, from_be_bytes}
use Rattle.krb_keys.specs.declared.key.Key.{Key}
use Rattle.krb_keys.specs.KeyUsages.{usage_ap_rep_enc_part, usage_krb_priv}
use Rattle.krb_protocol.specs.Numbers as protocol
use Rattle.krb_der.specs.Types.{ap_rep, enc_ap_rep_part, krb_priv, enc_krb_priv_part, krb_error}
use Rattle.krb_der.specs.Values.{ap_rep_value, enc_ap_rep_part_value, krb_priv_value, enc_krb_priv_part_value, krb_error_value}
use Rattle.krb_der.specs.declared.ap_rep.ApRep.{ApRep}
use Rattle.krb_der.specs.declared.ap_rep.EncApRepPart.{EncApRepPart}
use Rattle.krb_der.specs.declared.krb_priv.KrbPriv.{KrbPriv}
use Rattle.krb_der.specs.declared.krb_priv.EncKrbPrivPart.{EncKrbPrivPart}
use Rattle.krb_der.specs.declared.krb_error.KrbError.{KrbError}
use Rattle.krb_codec.specs.declared.kerberos_time.KerberosTime.{KerberosTime}
use Rattle.krb_codec.specs.declared.numbers.Microseconds.{Microseconds}
use Rattle.krb_msgs.specs.Checks.{Held, Found, Then, Passed}
use Rattle.krb_msgs.specs.Parts.{Reads, OpensPart}
use Rattle.krb_msgs.specs.PrivateMessages.{IsPrivate}
use Rattle.krb_msgs.specs.declared.reply.Reply.{Reply}
use Rattle.krb_msgs.specs.declared.fault.ReplyFault.{ReplyFault}
use Rattle.krb_msgs.specs.declared.fault.ReplyFault.TheVariants as fault

-- a result code in two bytes, high byte first, and a text
abbrev pub reply_of : List ℕ → Option ℤ → Reply
reply_of bytes error = record {
  code = from_be_bytes w16 (take 2 bytes);
  text = drop 2 bytes;
  error = error;
}

abbrev pub SaysCode : List ℕ → Option ℤ → Result Reply ReplyFault → Type 0
SaysCode bytes error = Held (2 ≤ length bytes) fault.NoCode (Passed (reply_of bytes error))

-- version and message type (RFC 4120 section 5.5.2)
abbrev pub IsApRep : ApRep → Type 0
IsApRep m = (m.pvno ≡ protocol.pvno) × (m.msg_type ≡ protocol.krb_ap_rep)

-- time and microseconds are those of the authenticator (RFC 4120 section 3.2.5)
abbrev pub MatchesTime : KerberosTime → Microseconds → EncApRepPart → Type 0
MatchesTime ctime cusec part = (part.ctime ≡ ctime) × (part.cusec ≡ cusec)

-- the AP-REP is the service's answer to the authenticator with this time
unfoldable pub OpensApRep : Key → KerberosTime → Microseconds → List ℕ
    → Result (Unit {0}) ReplyFault → Type 0
OpensApRep session ctime cusec bytes =
    Then (Reads ap_rep ap_rep_value bytes fault.Malformed) (λ (m : ApRep).
    Held (IsApRep m) fault.Mismatch (
    Then (OpensPart enc_ap_rep_part enc_ap_rep_part_value session usage_ap_rep_enc_part m.enc_part
    fault.NotSealed fault.Malformed) (λ (part : EncApRepPart).
    Held (MatchesTime ctime cusec part) fault.Mismatch (
    Passed tt))))

-- the KRB-PRIV after it
unfoldable pub OpensResult : Key → List ℕ → Result Reply ReplyFault → Type 0
OpensResult subkey bytes =
    Then (Reads krb_priv krb_priv_value bytes fault.Malformed) (λ (m : KrbPriv).
    Held (IsPrivate m) fault.Mismatch (
    Then (OpensPart enc_krb_priv_part enc_krb_priv_part_value subkey usage_krb_priv m.enc_part
    fault.NotSealed fault.Malformed) (λ (part : EncKrbPrivPart).
    SaysCode part.user_data None)))

-- version and message type (RFC 4120 section 5.9.1)
abbrev pub IsKrbError : KrbError → Type 0
IsKrbError m = (m.pvno ≡ protocol.pvno) × (m.msg_type ≡ protocol.krb_error)

-- a KRB-ERROR
unfoldable pub OpensError : List ℕ → Result Reply ReplyFault → Type 0
OpensError bytes =
    Then (Reads krb_error krb_error_value bytes fault.Malformed) (λ (m : KrbError).
    Held (IsKrbError m) fault.Mismatch (
    Found (λ (data_bytes : List ℕ). m.e_data ≡ Some data_bytes) fault.NoCode (λ data_bytes.
    SaysCode data_bytes (Some m.error_code))))

-- arguments: session key, subkey, the authenticator's time and microseconds, the AP-REP and what follows it; without an
-- AP-REP, that is a KRB-ERROR
unfoldable pub OpensReply : (session subkey : Key) → KerberosTime → Microseconds
    → (ap_rep tail : List ℕ) → Result Reply ReplyFault → Type 0
OpensReply session subkey ctime cusec [] tail = OpensError tail
OpensReply session subkey ctime cusec (b ∷ bytes) tail =
    Then (OpensApRep session ctime cusec (b ∷ bytes)) (λ _. OpensResult subkey tail)
