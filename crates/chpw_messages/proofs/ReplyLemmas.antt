-- Replies can be made: their records fit, and they are short.
use Rattle.std.proofs.Common.{◌≡◌, ℕ, ◌≤◌, ◌<◌, ◌^◌, true, List, ◌++◌, length, length-append, sym, ◌∙◌, subst, ap, arith, refl, ℤ, pos, negsuc, ◌≤ℤ◌}
use Rattle.std.specs.Int.{to_be_bytes, w16}
use Rattle.std.proofs.lemmas.Int.{ints}
use Rattle.std.specs.declared.net.ip_addr.IpAddr.{IpAddr}
use Rattle.krb_keys.specs.KeyUsages.{usage_ap_rep_enc_part, usage_krb_priv}
use Rattle.krb_codec.specs.Shapes.{int32}
use Rattle.krb_codec.specs.Texts.{fits, is_in_range, text}
use Rattle.krb_der.specs.Types.{ap_rep, enc_ap_rep_part, enc_krb_priv_part, krb_error, krb_priv}
use Rattle.krb_der.specs.Values.{ap_rep_value, enc_ap_rep_part_value, enc_krb_priv_part_value, krb_error_value, krb_priv_value}
use Rattle.krb_der.specs.declared.krb_error.KrbError.{KrbError}
use Rattle.krb_msgs.specs.Addresses.{octets_of}
use Rattle.krb_msgs.specs.Making.{ap_rep_of, priv_of}
use Rattle.krb_msgs.specs.ReplyFitting.{IsShort}
use Rattle.krb_msgs.proofs.LengthLemmas.{between, micros_range, texts_are_short, time_range}
use Rattle.krb_msgs.proofs.FittingLemmas.{ap_reps_fit, privs_fit, sealed_length}
use Rattle.krb_msgs.proofs.ReplyFittingLemmas.{ap_rep_parts_fit, errors_fit, priv_parts_fit}
use Rattle.chpw_table.specs.declared.times.Moment.{Moment}
use Rattle.chpw_table.specs.Times.{IsMoment}
use Rattle.chpw_table.specs.Replies.{Answer, by_error}
use Rattle.chpw_serve.specs.declared.messages.Seal.{Seal}
use Rattle.chpw_serve.specs.Holding.{IsReplyTime}
use Rattle.chpw_messages.specs.Service.{IsRealm}
use Rattle.chpw_messages.specs.Replies.{ap_rep_part, error_record, priv_part, seq_number_of}

-- ---- a KRB-ERROR

pub error_range : (code : ℤ) → negsuc 2147483647 ≤ℤ code → code ≤ℤ pos 2147483647 → is_in_range int32 code ≡ true
error_range code low high = between (negsuc 2147483647) (pos 2147483647) code low high

pub error_fits : (realm : List ℕ) (code : ℕ) (error : ℤ) (words : List ℕ) (now : Moment)
    → IsRealm realm → IsMoment now → now.micros < 1000000 → is_in_range int32 error ≡ true → length words ≤ 100
    → fits krb_error (krb_error_value (error_record realm (by_error code error words) now)) ≡ true
error_fits realm code error words now is_realm moment micros range le =
    let low : negsuc 62167219199 ≤ℤ now.seconds = omega (arith, ints, moment.0) in
    errors_fit (record { 0 = now.seconds }) (record { 0 = now.micros }) error realm (to_be_bytes w16 code ++ words)
    (time_range now.seconds low moment.1, micros_range now.micros micros) range
    (omega (arith, length-append (to_be_bytes w16 code) words, is_realm.1, le))

pub error_short : (realm : List ℕ) (code : ℕ) (error : ℤ) (words : List ℕ) (now : Moment)
    → IsRealm realm → length words ≤ 100
    → length (text krb_error (krb_error_value (error_record realm (by_error code error words) now))) ≤ 2000
error_short realm code error words now is_realm le =
    let short = texts_are_short krb_error (krb_error_value (error_record realm (by_error code error words) now)) in
    omega (arith, short, length-append (to_be_bytes w16 code) words, is_realm.1, le)

-- the text of such a record
pub message_short : (realm : List ℕ) (code : ℕ) (error : ℤ) (words : List ℕ) (now : Moment) (e : KrbError) (message : List ℕ)
    → IsRealm realm → length words ≤ 100 → e ≡ error_record realm (by_error code error words) now
    → message ≡ text krb_error (krb_error_value e) → length message ≤ 2000
message_short realm code error words now e message is_realm le is written =
    let same = written ∙ ap (λ (x : KrbError). text krb_error (krb_error_value x)) is in
    subst (λ (t : List ℕ). length t ≤ 2000) (sym same) (error_short realm code error words now is_realm le)

-- ---- an AP-REP

seq_range : (words : List ℕ) → seq_number_of words < 2 ^ 32
seq_range words = omega arith

pub ap_rep_part_fits : (seal : Seal) (words : List ℕ) → IsReplyTime seal
    → IsShort enc_ap_rep_part (enc_ap_rep_part_value (ap_rep_part seal words))
ap_rep_part_fits seal words times =
    ap_rep_parts_fit (record { 0 = seal.ctime }) (record { 0 = seal.cusec }) (seq_number_of words)
    (time_range seal.ctime times.0 times.1, micros_range seal.cusec times.2) (seq_range words)

pub ap_rep_fits : (seal : Seal) (words c : List ℕ) → IsReplyTime seal → length c ≡ 16
    → fits ap_rep (ap_rep_value (ap_rep_of (ap_rep_part seal words) seal.session c)) ≡ true
ap_rep_fits seal words c times c16 = ap_reps_fit (ap_rep_part seal words) seal.session c c16 (ap_rep_part_fits seal words times).1

pub ap_rep_short : (seal : Seal) (words c : List ℕ) → length c ≡ 16
    → length (text ap_rep (ap_rep_value (ap_rep_of (ap_rep_part seal words) seal.session c))) ≤ 500
ap_rep_short seal words c c16 =
    let v = enc_ap_rep_part_value (ap_rep_part seal words) in
    let len = sealed_length seal.session usage_ap_rep_enc_part c enc_ap_rep_part v c16 refl in
    let part = texts_are_short enc_ap_rep_part v in
    let short = texts_are_short ap_rep (ap_rep_value (ap_rep_of (ap_rep_part seal words) seal.session c)) in
    omega (arith, len, part, short)

-- ---- a KRB-PRIV

pub priv_part_fits : (from : IpAddr) (a : Answer) (words : List ℕ) → length a.text ≤ 100 → length (octets_of from) ≤ 16
    → IsShort enc_krb_priv_part (enc_krb_priv_part_value (priv_part from a words))
priv_part_fits from a words le few =
    priv_parts_fit from (to_be_bytes w16 a.code ++ a.text) (seq_number_of words) (seq_range words)
    (omega (arith, length-append (to_be_bytes w16 a.code) a.text, le)) few

pub priv_fits : (seal : Seal) (a : Answer) (words c : List ℕ) → length a.text ≤ 100 → length (octets_of seal.address) ≤ 16 → length c ≡ 16
    → fits krb_priv (krb_priv_value (priv_of (priv_part seal.address a words) seal.subkey c)) ≡ true
priv_fits seal a words c le few c16 = privs_fit (priv_part seal.address a words) seal.subkey c c16 (priv_part_fits seal.address a words le few).1

pub priv_short : (seal : Seal) (a : Answer) (words c : List ℕ) → length a.text ≤ 100 → length (octets_of seal.address) ≤ 16 → length c ≡ 16
    → length (text krb_priv (krb_priv_value (priv_of (priv_part seal.address a words) seal.subkey c))) ≤ 1000
priv_short seal a words c le few c16 =
    let v = enc_krb_priv_part_value (priv_part seal.address a words) in
    let len = sealed_length seal.subkey usage_krb_priv c enc_krb_priv_part v c16 refl in
    let part = texts_are_short enc_krb_priv_part v in
    let short = texts_are_short krb_priv (krb_priv_value (priv_of (priv_part seal.address a words) seal.subkey c)) in
    omega (arith, len, part, short, length-append (to_be_bytes w16 a.code) a.text, le, few)
