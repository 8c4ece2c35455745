-- A reply opens to what it was made of.
use Rattle.std.proofs.Common.{◌≡◌, ℕ, ◌+◌, ◌<◌, ◌≤◌, List, [], ◌∷◌, true, length, take, drop, None, Ok, refl, sym, subst, arith, lit<}
use Rattle.std.specs.Prelude.{All}
use Rattle.std.specs.Int.{to_be_bytes, w16}
use Rattle.std.proofs.lemmas.List.{length-drop, length-take-le}
use Rattle.krb_keys.specs.declared.key.Key.{Key}
use Rattle.krb_codec.specs.Texts.{text}
use Rattle.krb_codec.specs.declared.kerberos_time.KerberosTime.{KerberosTime}
use Rattle.krb_codec.specs.declared.numbers.Microseconds.{Microseconds}
use Rattle.krb_der.specs.Types.{enc_ap_rep_part, enc_krb_priv_part, krb_error}
use Rattle.krb_der.specs.Values.{enc_ap_rep_part_value, enc_krb_priv_part_value, krb_error_value}
use Rattle.krb_msgs.specs.Making.{ap_rep_of, priv_of, word_bytes}
use Rattle.krb_msgs.specs.Replies.{OpensReply}
use Rattle.krb_msgs.proofs.OctetLemmas.{both_are, each_is, text_bytes, two_bytes, words_are}
use Rattle.krb_msgs.proofs.OpeningLemmas.{errors_open, replies_open}
use Rattle.krb_msgs.proofs.WordLemmas.{length-word_bytes}
use Rattle.chpw_frame.specs.Framing.{framed, reply_version, reply_versions, tail_of}
use Rattle.chpw_frame.specs.Stream.{longest}
use Rattle.chpw_frame.proofs.FramingLemmas.{framed_is_whole}
use Rattle.chpw_table.specs.Replies.{Answer, by_error, by_private}
use Rattle.chpw_messages.specs.Replies.{ap_rep_part, ap_rep_text, error_record, priv_part, priv_text}
use Rattle.chpw_messages.specs.RepliesOpen.{ErrorFramesOpen, PrivateFramesOpen, Tells, reply_in}
use Rattle.chpw_messages.proofs.ReplyLemmas.{ap_rep_fits, ap_rep_part_fits, ap_rep_short, error_fits, error_short, priv_fits, priv_part_fits, priv_short}

-- a frame of two parts says what they do
tells : (session subkey : Key) (ctime : KerberosTime) (cusec : Microseconds) (front tail : List ℕ) (a : Answer)
    → 6 + length front + length tail ≤ longest
    → OpensReply session subkey ctime cusec front tail (Ok (reply_in a))
    → Tells session subkey ctime cusec (framed reply_version front tail) a
tells session subkey ctime cusec front tail a le h =
    let bytes : List ℕ = framed reply_version front tail in
    let whole = framed_is_whole reply_versions true reply_version front tail refl (lit< tt) (λ e. cc) le in (
      whole.0,
      subst (λ (b : List ℕ). OpensReply session subkey ctime cusec b (tail_of bytes) (Ok (reply_in a))) (sym whole.2)
          (subst (λ (b : List ℕ). OpensReply session subkey ctime cusec front b (Ok (reply_in a))) (sym whole.3) h),
    )

pub error_frames_open : ErrorFramesOpen
error_frames_open session subkey ctime cusec realm code error words now is_realm moment micros lt range le =
    let m = error_record realm (by_error code error words) now in
    let short = error_short realm code error words now is_realm le in
    tells session subkey ctime cusec [] (text krb_error (krb_error_value m)) (by_error code error words) (omega (arith, short))
    (errors_open session subkey ctime cusec m code words
    (error_fits realm code error words now is_realm moment micros range le) (refl, refl) lt refl)

pub private_frames_open : PrivateFramesOpen
private_frames_open seal code words drawn times few plain_address lt le are nine =
    let a = by_private code words in
    let first = word_bytes (take 4 drawn) in
    let last = word_bytes (drop 5 drawn) in
    let first16 : length first ≡ 16 = (let four = length-take-le 4 drawn (omega (arith, nine)) in omega (arith, length-word_bytes (take 4 drawn), four)) in
    let last16 : length last ≡ 16 = (let four = length-drop 5 drawn in omega (arith, length-word_bytes (drop 5 drawn), four, nine)) in
    let part = ap_rep_part seal drawn in
    let private = priv_part seal.address a drawn in
    let fit = ap_rep_part_fits seal drawn times in
    let private_fit = priv_part_fits seal.address a drawn le few in
    let plain = text_bytes enc_ap_rep_part (enc_ap_rep_part_value part) refl (tt, (tt, (tt, (tt, tt)))) in
    let said = both_are (to_be_bytes w16 code) words (two_bytes code) are in
    let private_plain = text_bytes enc_krb_priv_part (enc_krb_priv_part_value private) refl
    (said, (tt, (tt, (tt, ((tt, (plain_address, tt)), (tt, tt)))))) in
    let short = ap_rep_short seal drawn first first16 in
    let private_short = priv_short seal a drawn last le few last16 in
    tells seal.session seal.subkey (record { 0 = seal.ctime }) (record { 0 = seal.cusec }) (ap_rep_text seal drawn) (priv_text seal a drawn) a
    (omega (arith, short, private_short))
    (replies_open seal.session seal.subkey (ap_rep_of part seal.session first) part (priv_of private seal.subkey last) private code words
    (ap_rep_fits seal drawn first times first16) (refl, refl)
    (first, None, first16, words_are (take 4 drawn), fit.0, plain, refl)
    (record {
      fit = priv_fits seal a drawn last le few last16;
      private = (refl, refl);
      sealed = (last, None, last16, words_are (drop 5 drawn), private_fit.0, private_plain, refl);
    })
    lt refl)
