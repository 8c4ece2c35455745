-- The two ends of a reply (RFC 3244 section 2): to the client that asked, it says the result code, the text and the
-- error code that it was made from.
use Rattle.std.specs.Prelude.{◌≡◌, ◌≤◌, ◌<◌, ◌^◌, ℕ, ℤ, List, true, All, length, None, Ok}
use Rattle.krb_keys.specs.declared.key.Key.{Key}
use Rattle.krb_codec.specs.Shapes.{int32}
use Rattle.krb_codec.specs.Texts.{is_in_range}
use Rattle.krb_codec.specs.declared.kerberos_time.KerberosTime.{KerberosTime}
use Rattle.krb_codec.specs.declared.numbers.Microseconds.{Microseconds}
use Rattle.krb_msgs.specs.Addresses.{octets_of}
use Rattle.krb_msgs.specs.Replies.{OpensReply}
use Rattle.krb_msgs.specs.declared.reply.Reply.{Reply}
use Rattle.chpw_frame.specs.Framing.{ap_of, first_fault, reply_versions, tail_of}
use Rattle.chpw_table.specs.Replies.{Answer, by_error, by_private}
use Rattle.chpw_table.specs.Times.{IsMoment}
use Rattle.chpw_table.specs.declared.times.Moment.{Moment}
use Rattle.chpw_serve.specs.declared.messages.Seal.{Seal}
use Rattle.chpw_serve.specs.Holding.{IsReplyTime}
use Rattle.chpw_messages.specs.Service.{IsRealm}
use Rattle.chpw_messages.specs.Replies.{error_frame, private_frame}

-- what a reply with this answer opens to
abbrev pub reply_in : Answer → Reply
reply_in a = record { code = a.code; text = a.text; error = a.error }

-- a whole frame says this, to the client that has these keys and sent an authenticator with this time
abbrev pub Tells : (session subkey : Key) → KerberosTime → Microseconds → List ℕ → Answer → Type 0
Tells session subkey ctime cusec frame a =
    (first_fault reply_versions true frame ≡ None)
    × OpensReply session subkey ctime cusec (ap_of frame) (tail_of frame) (Ok (reply_in a))

-- a KRB-ERROR says its answer, whoever asked
abbrev pub ErrorFramesOpen : Type 0
ErrorFramesOpen = (session subkey : Key) (ctime : KerberosTime) (cusec : Microseconds)
    (realm : List ℕ) (code : ℕ) (error : ℤ) (words : List ℕ) (now : Moment)
    → IsRealm realm → IsMoment now → now.micros < 1000000
    → code < 2 ^ 16 → is_in_range int32 error ≡ true → length words ≤ 100
    → Tells session subkey ctime cusec (error_frame realm (by_error code error words) now) (by_error code error words)

-- an AP-REP and a KRB-PRIV, made with nine random words, say theirs to the sender of what they answer
abbrev pub PrivateFramesOpen : Type 0
PrivateFramesOpen = (seal : Seal) (code : ℕ) (words drawn : List ℕ)
    → IsReplyTime seal → length (octets_of seal.address) ≤ 16 → All (λ b. b < 256) (octets_of seal.address)
    → code < 2 ^ 16 → length words ≤ 100 → All (λ b. b < 256) words → length drawn ≡ 9
    → Tells seal.session seal.subkey (record { 0 = seal.ctime }) (record { 0 = seal.cusec })
    (private_frame seal (by_private code words) drawn) (by_private code words)
