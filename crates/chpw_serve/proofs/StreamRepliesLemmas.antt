-- Turn after turn the machine of one thread gives the replies that were written.
use Rattle.std.proofs.Common.{◌≡◌, ℕ, ◌+◌, ◌≤◌, ◌<◌, List, [], ◌∷◌, ◌++◌, Bool, true, false, refl, sym, ◌∙◌, ap, subst, inl, inr, length, arith, length-append}
use Rattle.std.specs.Prelude.{◌==◌}
use Rattle.std.proofs.lemmas.Bool.Decides.{nat_tests}
use Rattle.std.proofs.lemmas.List.{append-nil}
use Rattle.chpw_table.specs.declared.times.Moment.{Moment}
use Rattle.chpw_table.specs.declared.history.Event.{Event}
use Rattle.chpw_table.specs.declared.history.Event.TheVariants.{Ask}
use Rattle.chpw_table.specs.declared.history.Receipt.{Receipt}
use Rattle.chpw_table.specs.declared.verdict.Verdict.{Verdict}
use Rattle.chpw_table.specs.State.{State}
use Rattle.chpw_table.specs.Step.{step}
use Rattle.chpw_table.specs.Decision.{verdict}
use Rattle.chpw_table.specs.Agreement.{Held}
use Rattle.chpw_table.specs.History.{IsDecided, IsJudged, IsLegal, outcome, step_event, step_entry}
use Rattle.chpw_table.specs.Replies.{Answer}
use Rattle.chpw_decider.specs.Deciding.{AddsReceipt}
use Rattle.chpw_decider.specs.Keeping.{entries}
use Rattle.chpw_serve.specs.declared.messages.Seal.{Seal}
use Rattle.chpw_serve.specs.Requests.{Request, Opens, refused, opened, opened_under}
use Rattle.chpw_serve.specs.Answers.{IsAnswer, history_full, reply}
use Rattle.chpw_serve.specs.Judging.{judged}
use Rattle.chpw_serve.proofs.JudgingLemmas.{judged_alike}
use Rattle.chpw_serve.specs.StreamReplies.{Draw, Run, is_full, run_after, reply_to}
use Rattle.chpw_serve.specs.ServedAlone.{AreOwnOf}

-- ---- a history, and a receipt in it

legal_at : (s : State) (old : List Receipt) (r : Receipt) (more : List Receipt) → IsLegal s (entries ((old ++ r ∷ []) ++ more))
    → IsJudged (outcome s (entries old)) r.entry.now r.entry.io_failed r.entry.event
legal_at s [] r more h = h.0
legal_at s (x ∷ xs) r more h = legal_at (step_entry s x.entry) xs r more h.1

outcome_with : (s : State) (old : List Receipt) (r : Receipt) → outcome s (entries (old ++ r ∷ [])) ≡ step_entry (outcome s (entries old)) r.entry
outcome_with s [] r = refl
outcome_with s (x ∷ xs) r = outcome_with (step_entry s x.entry) xs r

-- a request has the verdict and the step of what is judged
judged_as : (s : State) (now : Moment) (io : Bool) (q : Request) (counts : List ℕ) (v : Verdict) → IsDecided s now (opened_under counts q) io v
    → (v ≡ verdict s now (judged s q) io) × (step s now (opened_under counts q) io ≡ step s now (judged s q) io)
judged_as s now io q counts v h =
    let alike = judged_alike s now q counts io h.derived in
    (h.verdict_is ∙ alike.0, alike.1)

same_number : (a b : ℕ) → a ≡ b → (a == b) ≡ true
same_number a b h = grind (arith, nat_tests)

less_is_other : (a b : ℕ) → a < b → (a == b) ≡ false
less_is_other a b h = grind (arith, nat_tests)

-- ---- one message

module _ (error_frame : Answer → Moment → List ℕ) (private_frame : Seal → Answer → List ℕ → List ℕ) (opens : List ℕ → Opens → Type 0) (opening : Held) where
  -- the machine after these receipts
  abbrev pub run_at : List Receipt → Run
  run_at receipts = record { state = outcome opening.state (entries receipts); events = opening.events + length receipts }

  -- a message answered with these words at this moment is one that the machine answers so
  pub record Answered (old new : List Receipt) (text words : List ℕ) (now : Moment) (bytes : List ℕ) : Type 0 where
    pub draw : Draw
    pub moment_is : draw.moment ≡ now
    pub words_are : draw.words ≡ words
    pub opens_so : opens text draw.opens
    pub reply_is : bytes ≡ reply_to opening.max_entries error_frame private_frame (run_at old) draw draw.opens
    pub goes_on : run_at new ≡ run_after opening.max_entries (run_at old) draw draw.opens
    pub own : List Receipt
    pub added : new ≡ old ++ own
    pub own_are : AreOwnOf opening.max_entries (run_at old) draw draw.opens own

  module _ (all : List Receipt) (legal : IsLegal opening.state (entries all)) (room : opening.events + length all ≤ opening.max_entries) where
    -- the receipts so far are a front of all
    abbrev pub IsFront : List Receipt → Type 0
    IsFront receipts = (more : List Receipt) × (all ≡ receipts ++ more)

    not_opened : (old new : List Receipt) (text words : List ℕ) (now : Moment) (bytes : List ℕ) (a : Answer)
        → opens text (refused a) → new ≡ old → bytes ≡ error_frame a now → Answered old new text words now bytes
    not_opened old new text words now bytes a o same h = record {
      draw = record { moment = now; words = words; io = false; opens = refused a };
      moment_is = refl;
      words_are = refl;
      opens_so = o;
      reply_is = h;
      goes_on = ap run_at same;
      own = [];
      added = same ∙ sym (append-nil old);
      own_are = refl;
    }

    full : (old new : List Receipt) (text words : List ℕ) (now : Moment) (bytes : List ℕ) (q : Request)
        → opens text (opened q)
        → new ≡ old → opening.events + length new ≡ opening.max_entries → bytes ≡ error_frame history_full now
        → Answered old new text words now bytes
    full old new text words now bytes q o same h is =
        let d : Draw = record { moment = now; words = words; io = false; opens = opened q } in
        let b : is_full opening.max_entries (run_at old) ≡ true = same_number (opening.events
        + length old) opening.max_entries (ap (λ (rs : List Receipt). opening.events + length rs) (sym same) ∙ h) in
        record {
          draw = d;
          moment_is = refl;
          words_are = refl;
          opens_so = o;
          reply_is = rw b is;
          goes_on = rw b (ap run_at same);
          own = [];
          added = same ∙ sym (append-nil old);
          own_are = rw b refl;
        }

    decided : (old new : List Receipt) (text words : List ℕ) (now : Moment)
        (bytes : List ℕ) (q : Request) (v : Verdict) (counts : List ℕ) → IsFront new → opens text (opened q)
        → AddsReceipt old new now (opened_under counts q) v → bytes ≡ reply error_frame private_frame q.seal v words now → Answered old new text words now bytes
    decided old new text words now bytes q v counts front o h is =
        let r = h.receipt in
        let d : Draw = record { moment = now; words = words; io = r.entry.io_failed; opens = opened q } in
        let s = outcome opening.state (entries old) in
        let whole : all ≡ (old ++ r ∷ []) ++ front.0 = front.1 ∙ ap (λ (rs : List Receipt). rs ++ front.0) h.added in
        let io : Bool = r.entry.io_failed in
        let legal_here = legal_at opening.state old r front.0 (subst (λ (rs : List Receipt). IsLegal opening.state (entries rs)) whole legal) in
        let judge = judged_as s now io q counts v (subst (λ (e : Event). IsJudged s now io e) h.event_is
        (subst (λ (m : Moment). IsJudged s m io r.entry.event) h.now_is legal_here)) in
        let size : length all ≡ length old + 1 + length front.0 =
        ap length whole ∙ (length-append (old ++ r ∷ []) front.0
        ∙ ap (λ (n : ℕ). n + length front.0) (length-append old (r ∷ []))) in
        let less : opening.events + length old < opening.max_entries = omega (arith, size, room) in
        let b : is_full opening.max_entries (run_at old) ≡ false = less_is_other (opening.events + length old) opening.max_entries less in
        let stepped : outcome opening.state (entries new) ≡ step s now (judged s q) io =
        ap (λ (rs : List Receipt). outcome opening.state (entries rs)) h.added
        ∙ (outcome_with opening.state old r ∙ (ap (λ (m : Moment). step_event s m io r.entry.event) h.now_is
        ∙ (ap (λ (e : Event). step_event s now io e) h.event_is ∙ judge.1))) in
        let counted : opening.events + length new ≡ opening.events + length old + 1 =
        let e = ap length h.added ∙ length-append old (r ∷ []) in omega (arith, e) in
        record {
          draw = d;
          moment_is = refl;
          words_are = refl;
          opens_so = o;
          reply_is = rw b (is ∙ ap (λ (w : Verdict). reply error_frame private_frame q.seal w words now) judge.0);
          goes_on = rw b (ap (λ (t : State). record { state = t; events = opening.events + length new }) stepped
              ∙ ap (λ (n : ℕ). record { state = step s now (judged s q) io; events = n }) counted);
          own = r ∷ [];
          added = h.added;
          own_are = rw b (
            r,
            refl,
            record {
              counts = counts;
              event_is = h.event_is
                  ∙ ap (λ (w : Verdict). Ask (opened_under counts q) w) judge.0;
              now_is = h.now_is;
              io_is = refl;
            },
          );
        }

    -- what answers a message is what the machine answers
    pub answered : (full_now : Type 0) (old new : List Receipt) (text words : List ℕ) (now : Moment) (bytes : List ℕ)
        → IsFront new → (full_now → opening.events + length new ≡ opening.max_entries)
        → IsAnswer error_frame private_frame full_now (opens text) words now old new bytes → Answered old new text words now bytes
    answered full_now old new text words now bytes front is_at_limit (refused a, o, h) = not_opened old new text words now bytes a o h.0 h.1
    answered full_now old new text words now bytes front is_at_limit (opened q, o, inl h) = full old new text words now bytes q o h.0 (is_at_limit h.1) h.2
    answered full_now old new text words now bytes front is_at_limit (opened q, o, inr h) = decided old new text words now bytes q h.0 h.1 front o h.2 h.3
