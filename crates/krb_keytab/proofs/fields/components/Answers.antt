use Rattle.std.proofs.Common.{◌≡◌, ◌++◌, ◌∷◌, [], map}
use Rattle.std.proofs.lemmas.Result.{err_from_is_err_and}
use Rattle.std.proofs.lemmas.List.{map_push}
use Rattle.krb_keytab.specs.Entries.{components_at}
use Rattle.krb_keytab.proofs.FieldLemmas.{goes_on, ends, is_done}
use Rattle.krb_keytab.proofs.fields.components.Goals as goal

pub returns-in_err-component : goal.returns-in_err-component
returns-in_err-component c =
    let p = err_from_is_err_and c.from_residual.result c.from_residual.ensures.1 in
    rw (p.1, p.2) (record {
      value = ends c.in_err-component.field-0.0 (map (λ v. v.items) c.loop.components.items)
          c.args.count c.loop.counter c.loop.rest.now (components_at c.args.count c.args.bytes.now)
          c.loop-test.true c.in_err-component.ensures.value c.loop.invariant;
    })

pub loop-preserved : goal.loop-preserved
loop-preserved c =
    let one = c.in_ok-component.component in
    let more : map (λ v. v.items) c.push.new.self.items ≡ map (λ v. v.items) c.loop.components.items ++ one.items ∷ [] =
    rw c.in_ok-push.ensures.items (map_push _ c.loop.components.items one) in
    rw more (goes_on (map (λ v. v.items) c.loop.components.items)
    c.args.count c.loop.counter c.loop.rest.now one.items c.in_ok-component.after.now
    (components_at c.args.count c.args.bytes.now) c.loop-test.true c.in_ok-component.ensures.value c.loop.invariant)

pub returns : goal.returns
returns c =
    record {
      value = is_done (map (λ v. v.items) c.loop.components.items) c.args.count c.loop.counter c.loop.rest.now
          (components_at c.args.count c.args.bytes.now) c.loop-test.false c.loop.invariant;
    }
