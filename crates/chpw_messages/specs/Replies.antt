-- The reply to a message (RFC 3244 section 2): an AP-REP and a KRB-PRIV, or a KRB-ERROR alone.
use Rattle.std.specs.Prelude.{ℕ, pos, ◌%◌, ◌^◌, List, [], ◌++◌, take, drop, slice_index, unwrap_or}
use Rattle.std.specs.Int.{to_be_bytes, w16}
use Rattle.std.specs.declared.net.ip_addr.IpAddr.{IpAddr}
use Rattle.krb_codec.specs.Texts.{text}
use Rattle.krb_der.specs.Types as types
use Rattle.krb_der.specs.Values.{krb_error_value, ap_rep_value, krb_priv_value}
use Rattle.krb_der.specs.declared.krb_error.KrbError.{KrbError}
use Rattle.krb_der.specs.declared.ap_rep.EncApRepPart.{EncApRepPart}
use Rattle.krb_der.specs.declared.krb_priv.EncKrbPrivPart.{EncKrbPrivPart}
use Rattle.krb_msgs.specs.Making.{ap_rep_of, ap_rep_part_of, error_of, priv_of, priv_part_of, word_bytes}
use Rattle.chpw_frame.specs.Framing.{framed, reply_version}
use Rattle.chpw_table.specs.declared.times.Moment.{Moment}
use Rattle.chpw_table.specs.Replies.{Answer}
use Rattle.chpw_serve.specs.declared.messages.Seal.{Seal}

-- the result code, and the text
abbrev pub user_data : Answer → List ℕ
user_data a = to_be_bytes w16 a.code ++ a.text

-- ---- a KRB-ERROR (RFC 4120 section 5.9.1)

abbrev pub error_record : List ℕ → Answer → Moment → KrbError
error_record realm a now =
    error_of (record { 0 = now.seconds }) (record { 0 = now.micros }) (unwrap_or a.error (pos 0)) realm (user_data a)

abbrev pub error_frame : List ℕ → Answer → Moment → List ℕ
error_frame realm a now = framed reply_version [] (text types.krb_error (krb_error_value (error_record realm a now)))

-- ---- an AP-REP and a KRB-PRIV (RFC 4120 sections 5.5.2 and 5.7.1), made with nine random words

-- the sequence number of both parts, made of the fifth word
abbrev pub seq_number_of : List ℕ → ℕ
seq_number_of words = slice_index words 4 % 2 ^ 31

abbrev pub ap_rep_part : Seal → List ℕ → EncApRepPart
ap_rep_part seal words = ap_rep_part_of (record { 0 = seal.ctime }) (record { 0 = seal.cusec }) (seq_number_of words)

abbrev pub priv_part : IpAddr → Answer → List ℕ → EncKrbPrivPart
priv_part from a words = priv_part_of from (user_data a) (seq_number_of words)

-- sealed under the session key with the first four words
abbrev pub ap_rep_text : Seal → List ℕ → List ℕ
ap_rep_text seal words = text types.ap_rep (ap_rep_value (ap_rep_of (ap_rep_part seal words) seal.session (word_bytes (take 4 words))))

-- sealed under the subkey with the last four; its s-address is the one that the request was sent to
abbrev pub priv_text : Seal → Answer → List ℕ → List ℕ
priv_text seal a words = text types.krb_priv (krb_priv_value (priv_of (priv_part seal.address a words) seal.subkey (word_bytes (drop 5 words))))

abbrev pub private_frame : Seal → Answer → List ℕ → List ℕ
private_frame seal a words = framed reply_version (ap_rep_text seal words) (priv_text seal a words)
