use Rattle.std.proofs.Common.{All, rules, take_all, subst, sym, true≢false}
use Rattle.std.proofs.lemmas.List.Elements.{All-more}
use Rattle.chpw_endings.specs.Overlaps.{Takes}
use Rattle.chpw_endings.proofs.overlaps.taken_by.Goals as goal

pub loop-other-preserved : goal.loop-other-preserved
loop-other-preserved c =
    All-more (λ other. ¬ (Takes c.args.wildcard.now other)) c.args.addresses.now c.loop-other.other-index _ c.loop-other-test.true
    c.loop-other.invariant (λ t. true≢false (sym (c.if-takes.ensures.value.1 t)))

pub returns-clause-none : goal.returns-clause-none
returns-clause-none c =
    subst (All (λ other. ¬ (Takes c.args.wildcard.now other))) (take_all c.loop-other.other-index c.args.addresses.now (search rules)) c.loop-other.invariant
