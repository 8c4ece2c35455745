-- The replies to a stream as the machine of one thread gives them. It knows no receipts: it goes from
-- state to state, message after message, with what was drawn for each.
use Rattle.std.specs.Prelude.{ℕ, ◌+◌, List, [], ◌∷◌, ◌++◌, Bool, ◌==◌, if◌then◌else◌}
use Rattle.chpw_frame.specs.Stream.{Piece, message, ended, cut_off, too_long, next_piece, after_piece, sent}
use Rattle.chpw_table.specs.declared.times.Moment.{Moment}
use Rattle.chpw_table.specs.declared.verdict.Verdict.{Verdict}
use Rattle.chpw_table.specs.State.{State}
use Rattle.chpw_table.specs.Decision.{verdict}
use Rattle.chpw_table.specs.Step.{step}
use Rattle.chpw_table.specs.Replies.{Answer}
use Rattle.chpw_serve.specs.declared.messages.Seal.{Seal}
use Rattle.chpw_serve.specs.Requests.{Request, Opens, refused, opened}
use Rattle.chpw_serve.specs.Judging.{judged}
use Rattle.chpw_serve.specs.Answers.{history_full, reply}
use Rattle.chpw_serve.specs.Serving.{message_too_long}

-- what is drawn for a message: its moment, its nine words, whether its append fails, and what it
-- opens to
pub record Draw : Type 0 where
  pub moment : Moment
  pub words : List ℕ
  pub io : Bool
  pub opens : Opens

-- the machine: its state, and how many events it has decided
pub record Run : Type 0 where
  pub state : State
  pub events : ℕ

-- the verdict on a request, judged with its password's keys under the wanted counts
abbrev pub verdict_of : Run → Draw → Request → Verdict
verdict_of run d q = verdict run.state d.moment (judged run.state q) d.io

-- a machine that decides at most this many events
module _ (limit : ℕ) where
  abbrev pub is_full : Run → Bool
  is_full run = run.events == limit

  -- the machine after a message that opened so: one event further if it decided
  abbrev pub run_after : Run → Draw → Opens → Run
  run_after run d (refused a) = run
  run_after run d (opened q) =
      if is_full run
      then run
      else record { state = step run.state d.moment (judged run.state q) d.io; events = run.events + 1 }

  -- with these frames of a KRB-ERROR, and of an AP-REP and a KRB-PRIV under a request's keys
  module _ (error_frame : Answer → Moment → List ℕ) (private_frame : Seal → Answer → List ℕ → List ℕ) where
    -- the reply to a message that opened so
    abbrev pub reply_to : Run → Draw → Opens → List ℕ
    reply_to run d (refused a) = error_frame a d.moment
    reply_to run d (opened q) =
        if is_full run
        then error_frame history_full d.moment
        else reply error_frame private_frame q.seal (verdict_of run d q) d.words d.moment

    -- what is written for the next piece, before the rest; a message that is too long ends the stream
    abbrev pub written_for : Piece → Run → Draw → List ℕ → List ℕ
    written_for (message text) run d rest = sent (reply_to run d d.opens) ++ rest
    written_for too_long run d rest = sent (error_frame message_too_long d.moment)
    written_for ended run d rest = []
    written_for cut_off run d rest = []

    -- the replies to a stream, with what was drawn for its messages
    abbrev pub replies : List ℕ → Run → List Draw → List ℕ
    replies stream run [] = []
    replies stream run (d ∷ ds) =
        written_for (next_piece stream) run d
        (replies (after_piece (next_piece stream) stream) (run_after run d d.opens) ds)
