use Rattle.std.proofs.Common.{List, refl, ◌∙◌, subst}
use Rattle.chpw_table.specs.declared.request.Opened.{Opened}
use Rattle.chpw_table.specs.Completing.{completed}
use Rattle.chpw_table.specs.declared.history.Receipt.{Receipt}
use Rattle.chpw_table.specs.declared.outcome.DecideFault.{DecideFault}
use Rattle.chpw_decider.specs.Deciding.{AddsReceipt, MayBe}
use Rattle.chpw_serve.specs.declared.deciding.Try.{Try}
use Rattle.chpw_serve.specs.Trying.{IsTry}
use Rattle.chpw_serve.proofs.CompletingLemmas.{completed_on}
use Rattle.chpw_serve.proofs.deciding.decide.Goals as goal

pub loop-preserved : goal.loop-preserved
loop-preserved g c =
    let old = g.D.Decider.gathered c.loop.decider in
    let new = g.D.Decider.gathered c.try_once.new.decider in
    let full = g.D.Decider.may_be_full c.try_once.new.decider new in
    let t = subst (λ (t : Try). IsTry full t c.args.password.now c.loop.opened c.args.now old new) c.in-Again.is c.in_ok-verdict.ensures.tried in (
      t.0 ∙ c.loop.invariant.0,
      completed_on c.args.password.now c.args.opened c.loop.opened c.in-Again.again c.loop.invariant.1 t.1,
      g.met.D.Decider.goes_on
          c.args.decider.now c.loop.decider c.try_once.new.decider c.loop.invariant.2 c.try_once.ensures.follows,
    )

pub returns-in-Ok-clause-decision : goal.returns-in-Ok-clause-decision
returns-in-Ok-clause-decision g c =
    let e = c.in-Ok.ensures.adds in
    let password = c.args.password.now in
    let new = g.D.Decider.gathered c.decide_deriving.new.self in
    let more : Opened = completed password e.0 c.loop.opened in
    let all = completed_on password c.args.opened c.loop.opened more c.loop.invariant.1 (e.0, refl) in
    let adds = subst (λ (rs : List Receipt). AddsReceipt rs new c.args.now more c.in-Ok.verdict) c.loop.invariant.0 e.1 in
    (all.0, subst (λ (o : Opened). AddsReceipt (g.D.Decider.gathered c.args.decider.now) new c.args.now o c.in-Ok.verdict) all.1 adds)

pub returns-in_err-verdict-clause-follows : goal.returns-in_err-verdict-clause-follows
returns-in_err-verdict-clause-follows g c = g.met.D.Decider.goes_on
    c.args.decider.now c.loop.decider c.try_once.new.decider c.loop.invariant.2 c.try_once.ensures.follows

pub returns-in-Verdict-clause-follows : goal.returns-in-Verdict-clause-follows
returns-in-Verdict-clause-follows g c = g.met.D.Decider.goes_on
    c.args.decider.now c.loop.decider c.try_once.new.decider c.loop.invariant.2 c.try_once.ensures.follows

pub returns-in-Full-clause-follows : goal.returns-in-Full-clause-follows
returns-in-Full-clause-follows g c = g.met.D.Decider.goes_on
    c.args.decider.now c.loop.decider c.try_once.new.decider c.loop.invariant.2 c.try_once.ensures.follows

pub returns-in-Ok-clause-follows : goal.returns-in-Ok-clause-follows
returns-in-Ok-clause-follows g c = g.met.D.Decider.goes_on
    c.args.decider.now c.loop.decider c.decide_deriving.new.self c.loop.invariant.2 c.decide_deriving.ensures.follows

pub returns-in-Full-fault-clause-follows : goal.returns-in-Full-fault-clause-follows
returns-in-Full-fault-clause-follows g c = g.met.D.Decider.goes_on
    c.args.decider.now c.loop.decider c.decide_deriving.new.self c.loop.invariant.2 c.decide_deriving.ensures.follows

pub returns-in-Full-fault-clause-decision : goal.returns-in-Full-fault-clause-decision
returns-in-Full-fault-clause-decision g c =
    let new = g.D.Decider.gathered c.decide_deriving.new.self in
    let full = g.D.Decider.may_be_full c.decide_deriving.new.self new in (
      c.in-Err.ensures.refused.0 ∙ c.loop.invariant.0,
      subst (λ (f : DecideFault). MayBe full f) c.in-Full-fault.is c.in-Err.ensures.fault.0,
      completed_on c.args.password.now c.args.opened c.loop.opened c.in-Err.refused.opened c.loop.invariant.1 c.in-Err.ensures.refused.1,
    )
