use Rattle.std.proofs.Common.{◌≡◌, ◌∙◌, true, get_or, arith, rules}
use Rattle.chpw_record.specs.RecordKeys.{key_fits}
use Rattle.chpw_record.specs.Records.{kind_number}
use Rattle.chpw_record.proofs.ChangeLemmas.{change_whole, change_none}
use Rattle.chpw_record.proofs.RecordLemmas.{kind_back}
use Rattle.chpw_record.proofs.record.PrincipalKey.read.Goals as goal

pub returns-in-Some-2-clause-value : goal.returns-in-Some-2-clause-value
returns-in-Some-2-clause-value c =
    let n = rw c.in-Some-2.is at c.in_ok-name.ensures.value in
    let first : get_or c.split_at.result.0.now 0 0 ≡ kind_number c.in-Some.kind =
    kind_back (get_or c.split_at.result.0.now 0 0) c.in-Some.kind (search rules) in
    let fits : key_fits c.key_in-key.result ≡ true = search rules in
    change_whole (kind_number c.in-Some.kind) c.args.body.now c.split_at.result.0.now c.split_at.result.1.now
    c.key_in-key.result c.in-Some-2.name c.if-body-lt-VERSION_LENGTH.false (λ i. omega (arith, c.type_inv.body i))
    c.split_at.ensures.front c.split_at.ensures.back first c.key_in-key.ensures.value fits n.0 n.1

pub returns-in-None-clause-value : goal.returns-in-None-clause-value
returns-in-None-clause-value c = λ kind d fits e.
    change_none (kind_number kind) c.args.body.now c.split_at.result.0.now c.split_at.result.1.now d
    c.if-body-lt-VERSION_LENGTH.false c.split_at.ensures.front c.split_at.ensures.back
    (rw c.in-None.is at c.in_ok-name.ensures.value) fits e
