use Rattle.std.proofs.Common.{◌∷◌, List, map, subst, sym, take}
use Rattle.std.proofs.lemmas.Result.{err_from_is_err_and}
use Rattle.std.specs.declared.net.ip_addr.IpAddr.{IpAddr}
use Rattle.chpw_invocation.specs.Addresses.{AreListed}
use Rattle.chpw_invocation.specs.Listening.{listened}
use Rattle.chpw_invocation.proofs.ListeningLemmas.{all_taken, next_listed, next_refused, one_listed}
use Rattle.chpw_invocation.proofs.addresses.addresses_from.Goals as goal

pub loop-text-init : goal.loop-text-init
loop-text-init c = λ text has.
    subst (λ (l : List IpAddr). AreListed (text ∷ map (λ t. t.now) (take 0 c.args.others.now)) l) (sym c.of-addresses.ensures.value)
    (one_listed text c.args.first has)

pub returns-in_err-add_text-clause-refused : goal.returns-in_err-add_text-clause-refused
returns-in_err-add_text-clause-refused c =
    let p = err_from_is_err_and c.from_residual.result c.from_residual.ensures.1 in
    rw (p.1, p.2)
    (λ text has. next_refused text c.args.others.now c.loop-text.text-index _ (listened c.loop-text.addresses) _ c.loop-text-test.true
    (c.loop-text.invariant text has) c.in_err-add_text.ensures.refused)

pub loop-text-preserved : goal.loop-text-preserved
loop-text-preserved c = λ text has.
    next_listed text c.args.others.now c.loop-text.text-index _ (listened c.loop-text.addresses) (listened c.add_text.new.addresses)
    c.loop-text-test.true (c.loop-text.invariant text has) c.in_ok-add_text.ensures.added

pub returns-clause-value : goal.returns-clause-value
returns-clause-value c = λ text has.
    all_taken text c.args.others.now c.loop-text.text-index (listened c.loop-text.addresses) c.loop-text-test.false (c.loop-text.invariant text has)
