use Rattle.std.proofs.Common.{refl, subst, sym, true≢false}
use Rattle.chpw_invocation.specs.Addresses.{IsAmong}
use Rattle.chpw_invocation.proofs.ListeningLemmas.{among_at, among_below}
use Rattle.chpw_invocation.proofs.listening.ListenAddresses.has.Goals as goal

pub returns-then-is_same : goal.returns-then-is_same
returns-then-is_same c = record {
  value = (
    λ yes. subst (IsAmong c.args.address) c.as_slice-other-items.ensures.value
        (among_at c.args.address _ _ _ c.loop-other-test.true (c.if-is_same.ensures.value.0 refl)),
    λ among. refl,
  );
}

pub loop-other-preserved : goal.loop-other-preserved
loop-other-preserved c =
    among_below c.args.address _ _ _ c.loop-other-test.true c.loop-other.invariant (λ same. true≢false (sym (c.if-is_same.ensures.value.1 same)))
