-- The parts of a service's reply fit, which meets the conditions of the makers.
use Rattle.std.specs.Prelude.{◌≡◌, ◌≤◌, ◌<◌, ◌^◌, ℕ, ◌+◌, ℤ, pos, true, List, length}
use Rattle.std.specs.declared.net.ip_addr.IpAddr.{IpAddr}
use Rattle.krb_codec.specs.Shapes.{Shape, Value, int32, kerberos_time, microseconds}
use Rattle.krb_codec.specs.Texts.{fits, is_in_range, text}
use Rattle.krb_codec.specs.declared.kerberos_time.KerberosTime.{KerberosTime}
use Rattle.krb_codec.specs.declared.numbers.Microseconds.{Microseconds}
use Rattle.krb_der.specs.Types.{enc_ap_rep_part, enc_krb_priv_part, krb_error}
use Rattle.krb_der.specs.Values.{enc_ap_rep_part_value, enc_krb_priv_part_value, krb_error_value}
use Rattle.krb_msgs.specs.Addresses.{octets_of}
use Rattle.krb_msgs.specs.Fitting.{longest_part}
use Rattle.krb_msgs.specs.Making.{ap_rep_part_of, error_of, priv_part_of}

-- a time and its microseconds can be written
abbrev pub IsWritable : KerberosTime → Microseconds → Type 0
IsWritable time micros =
    (is_in_range kerberos_time time.0 ≡ true) × (is_in_range microseconds (pos micros.0) ≡ true)

-- a value fits, and so does a message with its text as sealed part
abbrev pub IsShort : (s : Shape) → Value s → Type 0
IsShort s v = (fits s v ≡ true) × (length (text s v) ≤ longest_part)

abbrev pub ApRepPartsFit : Type 0
ApRepPartsFit = (ctime : KerberosTime) (cusec : Microseconds) (number : ℕ)
    → IsWritable ctime cusec → number < 2 ^ 32
    → IsShort enc_ap_rep_part (enc_ap_rep_part_value (ap_rep_part_of ctime cusec number))

abbrev pub PrivPartsFit : Type 0
PrivPartsFit = (from : IpAddr) (user_data : List ℕ) (number : ℕ)
    → number < 2 ^ 32 → length user_data ≤ 63996 → length (octets_of from) ≤ 16
    → IsShort enc_krb_priv_part (enc_krb_priv_part_value (priv_part_of from user_data number))

abbrev pub ErrorsFit : Type 0
ErrorsFit = (stime : KerberosTime) (susec : Microseconds) (code : ℤ) (realm e_data : List ℕ)
    → IsWritable stime susec → is_in_range int32 code ≡ true
    → length realm + length e_data ≤ 64000
    → fits krb_error (krb_error_value (error_of stime susec code realm e_data)) ≡ true
