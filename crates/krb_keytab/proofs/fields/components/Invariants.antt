use Rattle.std.proofs.Common.{◌≡◌, ◌-◌, map}
use Rattle.krb_keytab.specs.Entries.{components_at}
use Rattle.krb_keytab.proofs.FieldLemmas.{with_front}
use Rattle.krb_keytab.proofs.fields.components.Given as goal

abbrev pub invariant-loop : goal.invariant-loop
invariant-loop l = with_front (map (λ c. c.items) l.components.items) (components_at (l.count - l.counter) l.rest) ≡ components_at l.count l.bytes
