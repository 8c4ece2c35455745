use Rattle.std.proofs.Common.{refl, subst, sym, true≢false}
use Rattle.chpw_invocation.specs.Addresses.{HasWildcard}
use Rattle.chpw_invocation.proofs.ListeningLemmas.{wildcard_at, wildcard_below}
use Rattle.chpw_invocation.proofs.listening.ListenAddresses.has_wildcard.Goals as goal

pub returns-then-is_unspecified : goal.returns-then-is_unspecified
returns-then-is_unspecified c = record {
  value = (
    λ yes. subst HasWildcard c.as_slice-address-items.ensures.value
        (wildcard_at _ _ _ c.loop-address-test.true (c.if-is_unspecified.ensures.0 refl)),
    λ some. refl,
  );
}

pub loop-address-preserved : goal.loop-address-preserved
loop-address-preserved c =
    wildcard_below _ _ _ c.loop-address-test.true c.loop-address.invariant (λ is. true≢false (sym (c.if-is_unspecified.ensures.1 is)))
