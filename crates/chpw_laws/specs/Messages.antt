-- An old password in a message. A message opens to a request; what is decided has a digest in place of its password.
use Rattle.std.specs.Prelude.{◌≡◌, ◌≢◌, ℕ, ◌<◌, List, Bool, true, Option}
use Rattle.chpw_table.specs.declared.times.Moment.{Moment}
use Rattle.chpw_table.specs.declared.request.Target.{Target}
use Rattle.chpw_table.specs.declared.verdict.Verdict.TheVariants.{Reused, Done}
use Rattle.chpw_table.specs.Requests.{named_or}
use Rattle.chpw_table.specs.Verdicts.{reads_keys}
use Rattle.chpw_table.specs.Decision.{verdict}
use Rattle.chpw_table.specs.Laws.{NeverRemoved}
use Rattle.chpw_serve.specs.Requests.{Request, new_password, client_of, opened_under}
use Rattle.chpw_serve.specs.Judging.{judged}
use Rattle.chpw_laws.specs.OldPasswords.{IsFor, Changed, new_keys_of, depth_of, end_of}

-- what is decided of a request with a new password is for this password of its target, under whichever counts its keys
-- are derived
abbrev pub OpensForIt : Type 0
OpensForIt = (q : Request) (counts : List ℕ) (target : Option Target) (password : List ℕ) →
    q.content ≡ new_password target password → IsFor (named_or target (client_of q)).name password (opened_under counts q)

-- until `depth` further keys of the name came in front, unless it was removed, a request with the password that was
-- accepted, as it is judged, is not accepted; where no earlier row refuses it, it is refused for reuse
abbrev pub RefusedAsJudged : Type 0
RefusedAsJudged = (h : Changed) (q : Request) (target : Option Target) (now : Moment) (io : Bool) →
    NeverRemoved h.name h.later → new_keys_of h.name h.later < depth_of h →
    q.content ≡ new_password target h.password → (named_or target (client_of q)).name ≡ h.name →
    (verdict (end_of h) now (judged (end_of h) q) io ≢ Done)
    × (reads_keys (verdict (end_of h) now (judged (end_of h) q) io) ≡ true → verdict (end_of h) now (judged (end_of h) q) io ≡ Reused)
