-- What is made of a request or a reply opens to it.
use Rattle.std.proofs.Common.{◌≡◌, ◌<◌, ◌^◌, ℕ, ℤ, List, [], ◌∷◌, ◌++◌, length, Option, None, Some, Result, Ok, refl, sym, ap, subst, arith}
use Rattle.std.specs.Int.{to_be_bytes, w16}
use Rattle.std.proofs.lemmas.Nat.{from_be_bytes-to_be_bytes_2}
use Rattle.krb_keys.specs.declared.key.Key.{Key}
use Rattle.krb_codec.specs.declared.kerberos_time.KerberosTime.{KerberosTime}
use Rattle.krb_codec.specs.declared.numbers.Microseconds.{Microseconds}
use Rattle.krb_der.specs.Types.{ap_req, ap_rep, enc_ticket_part, authenticator, enc_ap_rep_part, krb_priv, enc_krb_priv_part, krb_error}
use Rattle.krb_der.specs.Values.{ap_req_value, ap_rep_value, enc_ticket_part_value, authenticator_value}
use Rattle.krb_der.specs.Values.{enc_ap_rep_part_value, krb_priv_value, enc_krb_priv_part_value, krb_error_value}
use Rattle.krb_msgs.specs.Checks.{met, of_one, goes_on}
use Rattle.krb_msgs.specs.Presented.{Presents}
use Rattle.krb_msgs.specs.Tickets.{OpensTicket}
use Rattle.krb_msgs.specs.Authenticators.{OpensAuthenticator}
use Rattle.krb_msgs.specs.Accepted.{Accepts}
use Rattle.krb_msgs.specs.ApExchange.{OpensAp}
use Rattle.krb_msgs.specs.PrivateMessages.{OpensPriv}
use Rattle.krb_msgs.specs.Replies.{OpensApRep, OpensError, OpensReply, OpensResult, SaysCode}
use Rattle.krb_msgs.specs.Laws.{ApReqsOpen, ErrorsOpen, PrivsOpen, RepliesOpen}
use Rattle.krb_msgs.specs.declared.fault.ReplyFault.{ReplyFault}
use Rattle.krb_msgs.specs.declared.reply.Reply.{Reply}
use Rattle.krb_msgs.proofs.PartLemmas.{reads_text, opens_sealed, known_etype, some_text}

pub privs_open : PrivsOpen
unfolding OpensPriv
privs_open strictness local subkey seq_number m part is follows strict =
    goes_on m (reads_text krb_priv krb_priv_value m _ refl is.fit)
    (met is.private
    (goes_on part (opens_sealed subkey _ m.enc_part enc_krb_priv_part enc_krb_priv_part_value part _ _ refl refl is.sealed)
    (met follows (met strict refl))))

pub ap_reqs_open : ApReqsOpen
unfolding Presents OpensTicket OpensAuthenticator Accepts OpensAp
ap_reqs_open realm keys peer request part a session subkey is =
    goes_on (request, is.key)
    (goes_on request (reads_text ap_req ap_req_value request _ refl is.fit)
    (met is.version (met is.message_type (met is.own_ticket (met is.ours
    (met (known_etype is.key _ request.ticket.enc_part enc_ticket_part (enc_ticket_part_value part) is.ticket) (of_one is.key is.taken refl)))))))
    (goes_on (part, session)
    (goes_on part (opens_sealed is.key _ request.ticket.enc_part enc_ticket_part enc_ticket_part_value part _ _ refl refl is.ticket)
    (of_one session is.session_is refl))
    (goes_on a
    (goes_on a (opens_sealed session _ request.authenticator authenticator authenticator_value a _ _ refl refl is.sealed) (met is.sealed_version refl))
    (met is.client (met is.address (of_one subkey is.subkey_is refl)))))

-- ---- replies

says : (bytes : List ℕ) (code : ℕ) (words : List ℕ) (error : Option ℤ) → code < 2 ^ 16 → bytes ≡ to_be_bytes w16 code ++ words
    → SaysCode bytes error (Ok (record { code = code; text = words; error = error }))
says bytes code words error lt is =
    subst (λ (b : List ℕ). SaysCode b error (Ok (record { code = code; text = words; error = error }))) (sym is)
    (met (omega arith) (ap (λ (n : ℕ). Ok (record { code = n; text = words; error = error })) (sym (from_be_bytes-to_be_bytes_2 code lt))))

-- an AP-REP that isn't empty
both_open : (session subkey : Key) (ctime : KerberosTime) (cusec : Microseconds) (bytes tail : List ℕ) (r : Result Reply ReplyFault)
    → 0 < length bytes → OpensApRep session ctime cusec bytes (Ok tt) → OpensResult subkey tail r
    → OpensReply session subkey ctime cusec bytes tail r
unfolding OpensReply
both_open session subkey ctime cusec [] tail r some first second = absurd (omega (arith, some))
both_open session subkey ctime cusec (b ∷ bytes) tail r some first second = goes_on tt first second

pub replies_open : RepliesOpen
unfolding OpensApRep OpensResult
replies_open session subkey m part private private_part code words fit is sealed second lt user_data =
    both_open session subkey part.ctime part.cusec _ _ _ (some_text ap_rep (ap_rep_value m) refl)
    (goes_on m (reads_text ap_rep ap_rep_value m _ refl fit)
    (met is
    (goes_on part (opens_sealed session _ m.enc_part enc_ap_rep_part enc_ap_rep_part_value part _ _ refl refl sealed)
    (met (refl, refl) refl))))
    (goes_on private (reads_text krb_priv krb_priv_value private _ refl second.fit)
    (met second.private
    (goes_on private_part (opens_sealed subkey _ private.enc_part enc_krb_priv_part enc_krb_priv_part_value private_part _ _ refl refl second.sealed)
    (says private_part.user_data code words None lt user_data))))

pub errors_open : ErrorsOpen
unfolding OpensReply OpensError
errors_open session subkey ctime cusec m code words fit is lt e_data =
    goes_on m (reads_text krb_error krb_error_value m _ refl fit)
    (met is
    (of_one (to_be_bytes w16 code ++ words) e_data (says _ code words (Some m.error_code) lt refl)))
