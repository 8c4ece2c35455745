use Rattle.chpw_invocation.proofs.RefusalLemmas.{own_kind}
use Rattle.chpw_invocation.proofs.matching.own_error.Goals as goal

pub returns : goal.returns
returns c = record {
  own = λ suited reason. own_kind _ c.refusal_of-refusal.result _ c.error.result (c.refusal_of-refusal.ensures.why suited reason)
      c.kind.ensures.value c.error.ensures.kind;
}
