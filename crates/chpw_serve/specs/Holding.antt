-- What the program has of a message that was opened.
use Rattle.std.specs.Prelude.{◌≡◌, ◌<◌, ◌≤ℤ◌, pos, negsuc, []}
use Rattle.krb_protocol.specs.declared.refusal.Refusal.{Refusal}
use Rattle.chpw_table.specs.Replies.{Answer, by_error}
use Rattle.chpw_serve.specs.declared.messages.Seal.{Seal}
use Rattle.chpw_serve.specs.declared.messages.OpenRequest.{OpenRequest}
use Rattle.chpw_serve.specs.declared.messages.OpenResult.{OpenResult}
use Rattle.chpw_serve.specs.declared.messages.OpenResult.TheVariants as program
use Rattle.chpw_serve.specs.Requests.{Request, Opens, refused, opened, opened_under, password_in}

abbrev pub answer_in : Refusal → Answer
answer_in r = by_error r.code r.error r.text.now

-- the program has this request, its digest with no keys yet
abbrev pub IsOpenRequest : Request → OpenRequest → Type 0
IsOpenRequest q i = (i.opened ≡ opened_under [] q) × (i.password ≡ password_in q.content) × (i.seal ≡ q.seal)

abbrev pub IsOpenResult : Opens → OpenResult → Type 0
IsOpenResult (refused a) (program.Refused r) = a ≡ answer_in r
IsOpenResult (opened q) (program.Opened i) = IsOpenRequest q i
IsOpenResult (refused a) (program.Opened i) = ⊥
IsOpenResult (opened q) (program.Refused r) = ⊥

-- a reply can carry these times: the years 0 to 9999, and microseconds
abbrev pub IsReplyTime : Seal → Type 0
IsReplyTime seal = (negsuc 62167219199 ≤ℤ seal.ctime) × (seal.ctime ≤ℤ pos 253402300799) × (seal.cusec < 1000000)

abbrev pub IsInTime : OpenResult → Type 0
IsInTime (program.Refused r) = Unit {0}
IsInTime (program.Opened i) = IsReplyTime i.seal
