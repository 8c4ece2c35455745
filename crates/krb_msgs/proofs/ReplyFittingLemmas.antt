-- What a service's reply is made of is in its range, and short.
use Rattle.std.proofs.Common.{◌≡◌, ℕ, ◌≤◌, ◌<◌, ◌^◌, true, refl, arith}
use Rattle.std.proofs.lemmas.Bool.{lt-ltb}
use Rattle.std.specs.declared.net.ip_addr.IpAddr.TheVariants.{V4, V6}
use Rattle.krb_codec.specs.Shapes.{Shape, Value, seq_number}
use Rattle.krb_codec.specs.Texts.{is_in_range}
use Rattle.krb_codec.proofs.CompleteLemmas.{and_both}
use Rattle.krb_der.specs.Types.{enc_ap_rep_part, enc_krb_priv_part, krb_error}
use Rattle.krb_der.specs.Values.{enc_ap_rep_part_value, enc_krb_priv_part_value, krb_error_value}
use Rattle.krb_msgs.specs.Fitting.{longest_part}
use Rattle.krb_msgs.specs.Lengths.{longest}
use Rattle.krb_msgs.specs.Making.{ap_rep_part_of, error_of, priv_part_of}
use Rattle.krb_msgs.specs.ReplyFitting.{ApRepPartsFit, ErrorsFit, IsShort, PrivPartsFit}
use Rattle.krb_msgs.proofs.LengthLemmas.{fit, short_texts_fit, texts_are_short}

short_part : (s : Shape) (v : Value s) → is_in_range s v ≡ true → longest s v ≤ longest_part → IsShort s v
short_part s v range le =
    let short = texts_are_short s v in
    (short_texts_fit s v range (omega (arith, short, le)), omega (arith, short, le))

number_range : (n : ℕ) → n < 2 ^ 32 → is_in_range seq_number n ≡ true
number_range n lt = lt-ltb n 4294967296 lt

pub ap_rep_parts_fit : ApRepPartsFit
ap_rep_parts_fit ctime cusec number moment lt =
    short_part enc_ap_rep_part (enc_ap_rep_part_value (ap_rep_part_of ctime cusec number))
    (and_both moment.0 (and_both moment.1 (and_both (number_range number lt) refl))) (omega arith)

pub priv_parts_fit : PrivPartsFit
priv_parts_fit (V4 ip) user_data number lt le few =
    short_part enc_krb_priv_part (enc_krb_priv_part_value (priv_part_of (V4 ip) user_data number))
    (and_both (number_range number lt) refl) (omega (arith, le, few))
priv_parts_fit (V6 ip) user_data number lt le few =
    short_part enc_krb_priv_part (enc_krb_priv_part_value (priv_part_of (V6 ip) user_data number))
    (and_both (number_range number lt) refl) (omega (arith, le, few))

pub errors_fit : ErrorsFit
errors_fit stime susec code realm e_data moment is_code le =
    fit krb_error (krb_error_value (error_of stime susec code realm e_data))
    (and_both moment.0 (and_both moment.1 (and_both is_code refl))) (omega (arith, le))
