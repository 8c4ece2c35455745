use Rattle.std.proofs.Common.{◌≡◌, IfOk, IfErr, sym, subst, Ok}
use Rattle.krb_der.specs.Values.{change_passwd_data_value}
use Rattle.chpw_frame.specs.ChangeData.{change_value, IsChange, IsNoChange, Finds}
use Rattle.chpw_frame.proofs.ChangeLemmas.{asks_right, asks_complete, refused_value}
use Rattle.chpw_frame.proofs.change_data.read_change_data.Goals as goal

pub returns-in-Ok-clause-sound : goal.returns-in-Ok-clause-sound
returns-in-Ok-clause-sound c =
    subst (λ r. IfOk r (λ change. IsChange c.args.bytes.now change))
    (sym c.change_of.ensures.value) (asks_right c.args.bytes.now c.in-Ok.fields c.in-Ok.ensures.value).0

pub returns-in-Ok-clause-complete : goal.returns-in-Ok-clause-complete
returns-in-Ok-clause-complete c = λ change h.
    let found : Ok (change_value change) ≡ Ok (change_passwd_data_value c.in-Ok.fields) = c.in-Ok.ensures.found (change_value change) h in
    subst (λ r. Finds r change) (sym c.change_of.ensures.value) (asks_complete c.in-Ok.fields change cc)

pub returns-in-Ok-clause-first : goal.returns-in-Ok-clause-first
returns-in-Ok-clause-first c =
    subst (λ r. IfErr r (λ fault. IsNoChange fault c.args.bytes.now))
    (sym c.change_of.ensures.value) (asks_right c.args.bytes.now c.in-Ok.fields c.in-Ok.ensures.value).1

pub returns-in-Err-Fault-clause-complete : goal.returns-in-Err-Fault-clause-complete
returns-in-Err-Fault-clause-complete c = λ change h.
    let refused = rw c.in-Err-Fault.field-0-is at c.in-Err-Fault.ensures.found in
    refused_value c.in-Err-Fault.field-0-0 (change_value change) (refused (change_value change) h)

pub returns-in-Err-Fault-clause-first : goal.returns-in-Err-Fault-clause-first
returns-in-Err-Fault-clause-first c = λ v h.
    let refused = rw c.in-Err-Fault.field-0-is at c.in-Err-Fault.ensures.found in
    refused_value c.in-Err-Fault.field-0-0 v (refused v h)
