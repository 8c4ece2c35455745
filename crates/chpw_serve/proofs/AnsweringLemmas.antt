-- What a message that opened is answered.
use Rattle.std.proofs.Common.{◌≡◌, ℕ, List, Option, Some, None, refl, ◌∙◌, ap, subst, inl, inr}
use Rattle.krb_protocol.specs.declared.refusal.Refusal.{Refusal}
use Rattle.chpw_table.specs.declared.times.Moment.{Moment}
use Rattle.chpw_table.specs.declared.history.Receipt.{Receipt}
use Rattle.chpw_table.specs.declared.request.Opened.{Opened}
use Rattle.chpw_table.specs.declared.verdict.Verdict.{Verdict}
use Rattle.chpw_table.specs.Replies.{Answer}
use Rattle.chpw_table.specs.Completing.{completed}
use Rattle.chpw_decider.specs.Deciding.{AddsReceipt, IsCompletedFrom}
use Rattle.chpw_serve.specs.declared.messages.Seal.{Seal}
use Rattle.chpw_serve.specs.declared.messages.OpenRequest.{OpenRequest}
use Rattle.chpw_serve.specs.Requests.{Request, opened_under}
use Rattle.chpw_serve.specs.Holding.{IsOpenRequest, answer_in}
use Rattle.chpw_serve.specs.Answers.{history_full, reply, AnswersRequest}
use Rattle.chpw_serve.specs.Trying.{IsVerdict}
use Rattle.chpw_serve.proofs.CompletingLemmas.{under_more}

module _ (error_frame : Answer → Moment → List ℕ) (private_frame : Seal → Answer → List ℕ → List ℕ)
    (full : Type 0) (words : List ℕ) (now : Moment) (old new : List Receipt) where
  -- a full history
  pub answers_full : (password : List ℕ) (ready : Opened) (mid : List Receipt) (d : Option Verdict)
      (r : Refusal) (q : Request) (bytes : List ℕ) → mid ≡ old → d ≡ None → IsVerdict full d password ready now mid new
      → answer_in r ≡ history_full → bytes ≡ error_frame (answer_in r) now → AnswersRequest error_frame private_frame full q words now old new bytes
  answers_full password ready mid d r q bytes same e h said is =
      let t = subst (λ (d : Option Verdict). IsVerdict full d password ready now mid new) e h in
      inl (t.0 ∙ same, t.1, is ∙ ap (λ (a : Answer). error_frame a now) said)

  -- a verdict
  pub answers_verdict : (i : OpenRequest) (password : List ℕ)
      (ready : Opened) (mid : List Receipt) (d : Option Verdict) (v : Verdict) (q : Request) (bytes : List ℕ)
      → IsOpenRequest q i → password ≡ i.password → IsCompletedFrom password i.opened ready
      → mid ≡ old → d ≡ Some v
      → IsVerdict full d password ready now mid new → bytes ≡ reply error_frame private_frame i.seal v words now
      → AnswersRequest error_frame private_frame full q words now old new bytes
  answers_verdict i password ready mid d v q bytes holds is_password first same e h is =
      let t = subst (λ (d : Option Verdict). IsVerdict full d password ready now mid new) e h in
      let made = under_more q i password ready (completed password t.0 ready) holds is_password first (t.0, refl) in
      let counts : List ℕ = made.0 in
      inr (
        v,
        counts,
        subst (λ (rs : List Receipt). AddsReceipt rs new now (opened_under counts q) v) same (subst (λ (o : Opened). AddsReceipt mid new now o v) made.1 t.1),
        is ∙ ap (λ (s : Seal). reply error_frame private_frame s v words now) holds.2,
      )
