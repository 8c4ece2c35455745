-- What the log notes of what it hears.
use Rattle.std.specs.Prelude.{ℕ, List, [], ◌∷◌, ◌++◌, Option, Some, None}
use Rattle.std.specs.declared.net.ip_addr.IpAddr.{IpAddr}
use Rattle.chpw_table.specs.declared.times.Moment.{Moment}
use Rattle.chpw_table.specs.declared.request.Opened.{Opened}
use Rattle.chpw_table.specs.declared.request.Target.{Target}
use Rattle.chpw_table.specs.declared.history.Event.{Event}
use Rattle.chpw_table.specs.declared.history.Event.TheVariants.{Ask, Raise, Update}
use Rattle.chpw_table.specs.declared.updating.KdcUpdate.{KdcUpdate}
use Rattle.chpw_table.specs.declared.updating.UpdateVerdict.{UpdateVerdict}
use Rattle.chpw_table.specs.declared.verdict.Verdict.{Verdict}
use Rattle.chpw_table.specs.declared.verdict.Verdict.TheVariants.{Skew, Replay, Broken}
use Rattle.chpw_table.specs.Requests.{client_of}
use Rattle.chpw_table.specs.Replies.{Answer, answer_of}
use Rattle.chpw_serve.specs.Hearing.{Heard, decision, refusal}
use Rattle.chpw_log.specs.declared.kind.HeldKind.{HeldKind}
use Rattle.chpw_log.specs.declared.kind.HeldKind.TheVariants.{Unopened, Skewed, Replayed}
use Rattle.chpw_log.specs.Lines.{Outcome, target_asked, line_with}

-- the line of a message that opened, of this moment; that of one of a kind whose lines are limited, which may be held
-- back, with its moment and peer; that the journal did not take a change, at this moment; or what came of an update from the KDC
pub data Noted : Type 0 where
  opened : Moment → List ℕ → Noted
  limited : HeldKind → Moment → IpAddr → List ℕ → Noted
  journal_failed : Moment → Noted
  updated : Moment → KdcUpdate → UpdateVerdict → Noted

-- what anybody can have answered without a ticket: a message that was recorded, long ago or a short while ago
abbrev pub kind_of : Verdict → Option HeldKind
kind_of Skew = Some Skewed
kind_of Replay = Some Replayed
kind_of v = None

-- a line, of a limited kind or of none
abbrev pub noted_line : Option HeldKind → Moment → IpAddr → List ℕ → Noted
noted_line None now peer line = opened now line
noted_line (Some kind) now peer line = limited kind now peer line

-- the result of a message, with the reply's answer
abbrev pub outcome_with : Option Target → Option Target → Answer → Option ℕ → Outcome
outcome_with client target a kvno = record {
  client = client;
  target = target;
  code = a.code;
  error = a.error;
  kvno = kvno;
  text = a.text;
}

abbrev pub decided_line : ℕ → IpAddr → Moment → Opened → Verdict → Option ℕ → List ℕ
decided_line worker peer now o v kvno =
    line_with now worker peer (outcome_with (Some (client_of o)) (target_asked o) (answer_of v) kvno)

-- the line of a request that was refused undecided
abbrev pub refused_line : ℕ → IpAddr → Moment → Opened → Answer → List ℕ
refused_line worker peer now o a = line_with now worker peer (outcome_with (Some (client_of o)) (target_asked o) a None)

-- the line of a message that didn't open
abbrev pub unopened_line : ℕ → IpAddr → Moment → Answer → List ℕ
unopened_line worker peer now a = line_with now worker peer (outcome_with None None a None)

abbrev pub failed_under : Moment → Verdict → List Noted
failed_under now Broken = journal_failed now ∷ []
failed_under now v = []

-- for a decision: its line, and before it that the journal failed, if it did; a raise and an update belong to no message
abbrev pub noted_event : ℕ → IpAddr → Moment → Event → Option ℕ → List Noted
noted_event worker peer now (Ask o v) kvno =
    failed_under now v ++ noted_line (kind_of v) now peer (decided_line worker peer now o v kvno) ∷ []
noted_event worker peer now (Raise count v) kvno = []
noted_event worker peer now (Update u v) kvno = []

-- by the observer of this worker
abbrev pub noted : ℕ → Heard → List Noted
noted worker (decision peer now r kvno) = noted_event worker peer now r.entry.event kvno
noted worker (refusal peer now (Some o) a) = opened now (refused_line worker peer now o a) ∷ []
noted worker (refusal peer now None a) = limited Unopened now peer (unopened_line worker peer now a) ∷ []
