use Rattle.std.proofs.Common.{◌≡◌, ◌≤◌, ◌∙◌, ap, sym, subst, inl, inr, refl, List, [], ◌∷◌, ℕ, length, Vec, Global, Option}
use Rattle.chpw_table.specs.declared.verdict.Verdict.{Verdict}
use Rattle.chpw_decider.specs.Deciding.{IsCompletedFrom}
use Rattle.chpw_serve.specs.declared.gate.Spot.TheVariants as spot
use Rattle.chpw_serve.specs.Hearing.{Call, passed}
use Rattle.chpw_serve.proofs.AnsweringLemmas.{answers_full, answers_verdict}
use Rattle.chpw_serve.proofs.HearingLemmas.{on_err, calls_refused, calls_opened, calls_request, answered_refused, answered_opened}
use Rattle.chpw_serve.proofs.answering.answer_message.Goals as goal
use Rattle.chpw_serve.proofs.answering.answer_message.Goals.{in-None+in_ok-bytes-in-None, in-Some+in_ok-bytes-in-Some}

items_of : (a b : Vec ℕ Global) → a ≡ b → a.items ≡ b.items
items_of a b e = ap (λ (v : Vec ℕ Global). v.items) e

fits_too : (a b : Vec ℕ Global) → a ≡ b → length b.items ≤ 65535 → length a.items ≤ 65535
fits_too a b e h = subst (λ (v : Vec ℕ Global). length v.items ≤ 65535) (sym e) h

pub returns-in_err-bytes-in-Refused-clause-refused : goal.returns-in_err-bytes-in-Refused-clause-refused
returns-in_err-bytes-in-Refused-clause-refused g c = on_err c.from_residual-in_err-bytes-in-Refused.result (
    let t = calls_refused g.G.Gate.passes g.G.Observer.hears c.args.ends.peer c.args.drawn.now
    (g.D.Decider.made c.args.decider.now) (g.D.Decider.gathered c.args.decider.now)
    (g.D.Decider.gathered c.args.decider.now) c.args.gate.now c.refused.new.self
    _ c.in_ok-request.field-0 c.in-Refused.refusal c.in-Refused.is c.in_ok-request.ensures.opening refl c.refused.ensures.heard in
    record { goes_on = g.met.D.Decider.stays c.args.decider.now; calls = t.2.0; calls_are = inr (t.0, t.1, t.2.1); in_turn = t.2.2 }
    )

pub returns-in-Refused-clause-answers : goal.returns-in-Refused-clause-answers
returns-in-Refused-clause-answers g c =
    let t = answered_refused g.G.Gate.passes g.G.Observer.hears c.args.ends.peer c.args.drawn.now
    (g.D.Decider.made c.args.decider.now) (g.D.Decider.gathered c.args.decider.now)
    (g.D.Decider.gathered c.args.decider.now) c.args.gate.now c.refused.new.self
    _ _ _ _ _ c.in_ok-bytes-in-Refused.bytes.items c.in_ok-request.field-0 c.in-Refused.refusal c.in-Refused.is
    c.in_ok-request.ensures.opening refl c.in_ok-bytes-in-Refused.ensures.frame c.refused.ensures.heard in
    record {
      reply = t.reply;
      fits = c.in_ok-bytes-in-Refused.ensures.fits;
      goes_on = g.met.D.Decider.stays c.args.decider.now;
      opened_is = t.opened_is;
      calls = t.calls_for.0;
      calls_are = t.calls_for.1;
      in_turn = t.calls_for.2;
    }

pub returns-in_err-verdict-clause-refused : goal.returns-in_err-verdict-clause-refused
returns-in_err-verdict-clause-refused g c = on_err c.from_residual-in_err-verdict.result (record {
  goes_on = g.met.D.Decider.goes_on c.args.decider.now c.derive_wanted.new.decider
      c.decide_heard.new.decider c.in_ok-ready.ensures.follows c.decide_heard.ensures.follows;
  calls = passed spot.Opened ∷ [];
  calls_are = inl (c.in_err-verdict.ensures.refused ∙ c.in_ok-ready.ensures.receipts, inr refl);
  in_turn = (c.at.new.self, c.at.ensures.passed, sym c.in_err-verdict.ensures.unheard);
})

pub returns-in_err-bytes-in-None-clause-refused : goal.returns-in_err-bytes-in-None-clause-refused
returns-in_err-bytes-in-None-clause-refused g c =
    let t = calls_opened g.G.Gate.passes g.G.Observer.hears c.args.ends.peer c.args.drawn.now
    (g.D.Decider.made c.decide_heard.new.decider) (g.D.Decider.gathered c.args.decider.now)
    (g.D.Decider.gathered c.decide_heard.new.decider) c.args.gate.now c.decide_heard.new.observer
    _ c.in_ok-request.field-0 c.in-Opened.request c.in-Opened.is c.in_ok-request.ensures.opening
    (λ q i. calls_request g.G.Gate.passes g.G.Observer.hears c.args.ends.peer c.args.drawn.now
    (g.D.Decider.made c.decide_heard.new.decider) (g.D.Decider.gathered c.args.decider.now)
    (g.D.Decider.gathered c.decide_heard.new.decider) c.args.gate.now c.decide_heard.new.observer
    _ c.in-Opened.request c.as_slice-2.result.now c.in_ok-ready.ready _ c.in_ok-verdict.verdict q c.at.new.self i c.as_slice-2.ensures.value
    (subst (λ (p : List ℕ). IsCompletedFrom p c.in-Opened.request.opened c.in_ok-ready.ready)
    (c.as_slice.ensures.value ∙ sym c.as_slice-2.ensures.value) c.in_ok-ready.ensures.derived)
    c.in_ok-ready.ensures.receipts c.in_ok-verdict.ensures.verdict c.at.ensures.passed c.in_ok-verdict.ensures.heard) in
    on_err c.from_residual-in_err-bytes-in-None.result (record {
      goes_on = g.met.D.Decider.goes_on c.args.decider.now c.derive_wanted.new.decider
          c.decide_heard.new.decider c.in_ok-ready.ensures.follows c.in_ok-verdict.ensures.follows;
      calls = t.2.0;
      calls_are = inr (t.0, t.1, t.2.1);
      in_turn = t.2.2;
    })

pub returns-in_err-bytes-in-Some-clause-refused : goal.returns-in_err-bytes-in-Some-clause-refused
returns-in_err-bytes-in-Some-clause-refused g c =
    let t = calls_opened g.G.Gate.passes g.G.Observer.hears c.args.ends.peer c.args.drawn.now
    (g.D.Decider.made c.decide_heard.new.decider) (g.D.Decider.gathered c.args.decider.now)
    (g.D.Decider.gathered c.decide_heard.new.decider) c.args.gate.now c.decide_heard.new.observer
    _ c.in_ok-request.field-0 c.in-Opened.request c.in-Opened.is c.in_ok-request.ensures.opening
    (λ q i. calls_request g.G.Gate.passes g.G.Observer.hears c.args.ends.peer c.args.drawn.now
    (g.D.Decider.made c.decide_heard.new.decider) (g.D.Decider.gathered c.args.decider.now)
    (g.D.Decider.gathered c.decide_heard.new.decider) c.args.gate.now c.decide_heard.new.observer
    _ c.in-Opened.request c.as_slice-2.result.now c.in_ok-ready.ready _ c.in_ok-verdict.verdict q c.at.new.self i c.as_slice-2.ensures.value
    (subst (λ (p : List ℕ). IsCompletedFrom p c.in-Opened.request.opened c.in_ok-ready.ready)
    (c.as_slice.ensures.value ∙ sym c.as_slice-2.ensures.value) c.in_ok-ready.ensures.derived)
    c.in_ok-ready.ensures.receipts c.in_ok-verdict.ensures.verdict c.at.ensures.passed c.in_ok-verdict.ensures.heard) in
    on_err c.from_residual-in_err-bytes-in-Some.result (record {
      goes_on = g.met.D.Decider.goes_on c.args.decider.now c.derive_wanted.new.decider
          c.decide_heard.new.decider c.in_ok-ready.ensures.follows c.in_ok-verdict.ensures.follows;
      calls = t.2.0;
      calls_are = inr (t.0, t.1, t.2.1);
      in_turn = t.2.2;
    })

pub returns-clause-answers : goal.returns-clause-answers
returns-clause-answers g c =
    let t = answered_opened g.G.Gate.passes g.G.Observer.hears c.args.ends.peer c.args.drawn.now
    (g.D.Decider.made c.decide_heard.new.decider) (g.D.Decider.gathered c.args.decider.now)
    (g.D.Decider.gathered c.decide_heard.new.decider) c.args.gate.now c.decide_heard.new.observer
    (g.M.Messages.error_frame c.args.service.now) (g.M.Messages.private_frame c.args.service.now)
    (g.D.Decider.may_be_full c.decide_heard.new.decider (g.D.Decider.gathered c.decide_heard.new.decider))
    (g.M.Messages.opens c.args.service.now c.args.ends c.args.message.now)
    c.args.drawn.words c.match-verdict.bytes.items
    c.in_ok-request.field-0 c.in-Opened.request c.in-Opened.is c.in_ok-request.ensures.opening
    (λ q i. (
      elim c.match-verdict.branch [
        | in-None+in_ok-bytes-in-None w ↦ answers_full _ _ _ _ _ _ _ c.as_slice-2.result.now c.in_ok-ready.ready _
            c.in_ok-verdict.verdict w.history_full.result q c.match-verdict.bytes.items
            c.in_ok-ready.ensures.receipts w.in-None.is c.in_ok-verdict.ensures.verdict w.history_full.ensures.value
            (items_of c.match-verdict.bytes w.in_ok-bytes-in-None.bytes w.bytes-is ∙ w.in_ok-bytes-in-None.ensures.frame)
        | in-Some+in_ok-bytes-in-Some w ↦
            answers_verdict _ _ _ _ _ _ _ c.in-Opened.request c.as_slice-2.result.now c.in_ok-ready.ready _
            c.in_ok-verdict.verdict w.in-Some.verdict q c.match-verdict.bytes.items i c.as_slice-2.ensures.value
            (subst (λ (p : List ℕ). IsCompletedFrom p c.in-Opened.request.opened c.in_ok-ready.ready)
            (c.as_slice.ensures.value ∙ sym c.as_slice-2.ensures.value) c.in_ok-ready.ensures.derived)
            c.in_ok-ready.ensures.receipts w.in-Some.is c.in_ok-verdict.ensures.verdict
            (items_of c.match-verdict.bytes w.in_ok-bytes-in-Some.bytes w.bytes-is ∙ w.in_ok-bytes-in-Some.ensures.reply)
      ],
      calls_request g.G.Gate.passes g.G.Observer.hears c.args.ends.peer c.args.drawn.now
          (g.D.Decider.made c.decide_heard.new.decider) (g.D.Decider.gathered c.args.decider.now)
          (g.D.Decider.gathered c.decide_heard.new.decider) c.args.gate.now c.decide_heard.new.observer
          _ c.in-Opened.request c.as_slice-2.result.now c.in_ok-ready.ready _ c.in_ok-verdict.verdict q c.at.new.self i c.as_slice-2.ensures.value
          (subst (λ (p : List ℕ). IsCompletedFrom p c.in-Opened.request.opened c.in_ok-ready.ready)
          (c.as_slice.ensures.value ∙ sym c.as_slice-2.ensures.value) c.in_ok-ready.ensures.derived)
          c.in_ok-ready.ensures.receipts c.in_ok-verdict.ensures.verdict c.at.ensures.passed c.in_ok-verdict.ensures.heard,
    )) in
    record {
      reply = t.reply;
      fits = elim c.match-verdict.branch [
        | in-None+in_ok-bytes-in-None w ↦ fits_too c.match-verdict.bytes w.in_ok-bytes-in-None.bytes w.bytes-is w.in_ok-bytes-in-None.ensures.fits
        | in-Some+in_ok-bytes-in-Some w ↦ fits_too c.match-verdict.bytes w.in_ok-bytes-in-Some.bytes w.bytes-is w.in_ok-bytes-in-Some.ensures.fits
      ];
      goes_on = g.met.D.Decider.goes_on c.args.decider.now c.derive_wanted.new.decider
          c.decide_heard.new.decider c.in_ok-ready.ensures.follows c.in_ok-verdict.ensures.follows;
      opened_is = t.opened_is;
      calls = t.calls_for.0;
      calls_are = t.calls_for.1;
      in_turn = t.calls_for.2;
    }
