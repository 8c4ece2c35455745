-- What a client prints of a reply, and its exit status.
use Rattle.std.specs.Prelude.{◌≡◌, ◌⊎◌, ℕ, ℤ, ◌==◌, ◌&&◌, List, [], ◌++◌, true, Option, Some, None, Result, Ok, Err, codes, is_none, if◌then◌else◌}
use Rattle.std.specs.Fmt.{decimal, signed_decimal}
use Rattle.chpw_printing.specs.Quoting.{words_text}
use Rattle.krb_msgs.specs.Replies.{OpensReply}
use Rattle.krb_msgs.specs.declared.fault.ReplyFault.{ReplyFault}
use Rattle.krb_msgs.specs.declared.reply.Reply.{Reply}
use Rattle.chpw_frame.specs.Framing.{ap_of, first_fault, reply_versions, tail_of}
use Rattle.chpw_frame.specs.declared.fault.FrameFault.{FrameFault}
use Rattle.chpw_client.specs.declared.request.SentRequest.{SentRequest}

-- the error code of a KRB-ERROR in words
abbrev pub error_words : Option ℤ → List ℕ
error_words None = []
error_words (Some error) = codes " error " ++ signed_decimal error

-- code C TEXT, or code C error E TEXT; the text as the log prints it
abbrev pub line_of : Reply → List ℕ
line_of r = codes "code " ++ decimal r.code ++ error_words r.error ++ codes " " ++ words_text r.text

-- 0 only for code 0 in a sealed reply: nothing protects a KRB-ERROR, and its code is never 0 (RFC 3244
-- section 2)
abbrev pub status_of : Reply → ℕ
status_of r = if r.code == 0 && is_none r.error then 0 else 1

-- what the parts of a reply say to the client that sent the request
abbrev pub Says : SentRequest → List ℕ → Result Reply ReplyFault → Type 0
Says sent reply = OpensReply sent.session sent.subkey sent.ctime sent.cusec (ap_of reply)
    (tail_of reply)

-- a reply that can't be split into its parts, or whose parts have a fault
abbrev pub IsUnread : SentRequest → List ℕ → Type 0
IsUnread sent reply = ((fault : FrameFault) × (first_fault reply_versions true reply ≡ Some fault))
    ⊎ ((fault : ReplyFault) × Says sent reply (Err fault))

-- the result of a reply: none if it can't be read, otherwise a line and a status
abbrev pub IsLine : SentRequest → List ℕ → Option (List ℕ × ℕ) → Type 0
IsLine sent reply None = IsUnread sent reply
IsLine sent reply (Some told) = (first_fault reply_versions true reply ≡ None)
    × ((r : Reply) × Says sent reply (Ok r) × (told ≡ (line_of r, status_of r)))
