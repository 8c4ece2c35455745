use Rattle.std.proofs.Common.{refl, sym, ◌∙◌}
use Rattle.chpw_invocation.proofs.OwnLemmas.{some_refusal}
use Rattle.chpw_invocation.proofs.matching.import_of.Goals as goal

pub returns-then-is_some-clause-none : goal.returns-then-is_some-clause-none
returns-then-is_some-clause-none c = λ whole none.
    some_refusal c.import_refusal.result _ (sym c.is_some.ensures ∙ c.if-is_some.true) c.import_refusal.ensures.value

pub returns-in_err-iterations-clause-none : goal.returns-in_err-iterations-clause-none
returns-in_err-iterations-clause-none c = λ whole none. absurd (c.in_err-iterations.ensures.taken whole.1.1.1.1.0 refl)
