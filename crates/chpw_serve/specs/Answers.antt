-- The answer to a message (RFC 3244 section 2).
use Rattle.std.specs.Prelude.{◌≡◌, ◌≤◌, ℕ, ℤ, List, ◌++◌, length, Bool, true, false, Option, Some, None, codes, ◌⊎◌}
use Rattle.krb_protocol.specs.declared.codes.TheConstants.{KRB5_KPASSWD_HARDERROR, KRB_ERR_GENERIC}
use Rattle.chpw_table.specs.declared.times.Moment.{Moment}
use Rattle.chpw_table.specs.declared.history.Receipt.{Receipt}
use Rattle.chpw_table.specs.declared.verdict.Verdict.{Verdict}
use Rattle.chpw_table.specs.Replies.{Answer, by_error, answer_of}
use Rattle.chpw_decider.specs.Deciding.{AddsReceipt}
use Rattle.chpw_serve.specs.declared.messages.Seal.{Seal}
use Rattle.chpw_serve.specs.Requests.{Request, Opens, refused, opened, opened_under}

-- when the history has no room for one more event
abbrev pub history_full : Answer
history_full = by_error KRB5_KPASSWD_HARDERROR KRB_ERR_GENERIC (codes "history full")

-- the frames of a KRB-ERROR, and of an AP-REP and a KRB-PRIV under a request's keys
module _ (error_frame : Answer → Moment → List ℕ) (private_frame : Seal → Answer → List ℕ → List ℕ) where
  abbrev pub framed_by : Option ℤ → Seal → Answer → List ℕ → Moment → List ℕ
  framed_by None seal a words now = private_frame seal a words
  framed_by (Some code) seal a words now = error_frame a now

  -- the reply with this verdict
  abbrev pub reply : Seal → Verdict → List ℕ → Moment → List ℕ
  reply seal v words now = framed_by (answer_of v).error seal (answer_of v) words now

  -- no receipt, and the history is full; or a receipt of this request with some keys derived, and
  -- its verdict's reply
  abbrev pub AnswersRequest : Type 0 → Request → List ℕ → Moment → List Receipt → List Receipt → List ℕ → Type 0
  AnswersRequest full q words now old new bytes =
      ((new ≡ old) × full × (bytes ≡ error_frame history_full now))
      ⊎ ((v : Verdict) × (counts : List ℕ) × AddsReceipt old new now (opened_under counts q) v
      × (bytes ≡ reply q.seal v words now))

  -- these bytes answer what was opened, and the receipts became these
  abbrev pub AnswersOpened : Type 0 → Opens → List ℕ → Moment → List Receipt → List Receipt → List ℕ → Type 0
  AnswersOpened full (refused a) words now old new bytes = (new ≡ old) × (bytes ≡ error_frame a now)
  AnswersOpened full (opened q) words now old new bytes = AnswersRequest full q words now old new bytes

  -- they answer a message that opens so
  abbrev pub IsAnswer : Type 0 → (Opens → Type 0) → List ℕ → Moment → List Receipt → List Receipt → List ℕ → Type 0
  IsAnswer full opens words now old new bytes = (o : Opens) × opens o × AnswersOpened full o words now old new bytes

-- whether a message opened
abbrev pub is_opened : Opens → Bool
is_opened (refused a) = false
is_opened (opened q) = true
