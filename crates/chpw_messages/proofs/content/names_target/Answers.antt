use Rattle.chpw_messages.proofs.OldPasswordLemmas.{named_if, none_if, realm_names}
use Rattle.std.proofs.Common.{refl}
use Rattle.chpw_messages.proofs.content.names_target.Goals as goal

pub returns-in-Ok : goal.returns-in-Ok
returns-in-Ok c = record { value = named_if c.args.bytes.now c.in-Ok.change c.is_some.result c.in-Ok.ensures.sound c.is_some.ensures }

pub returns-in-Err-NotChangeData : goal.returns-in-Err-NotChangeData
returns-in-Err-NotChangeData c =
    let none = rw c.in-Err-NotChangeData.field-0-is at c.in-Err-NotChangeData.ensures.first in
    record { value = none_if c.args.bytes.now none }

pub returns-in-Err-RealmWithoutName : goal.returns-in-Err-RealmWithoutName
returns-in-Err-RealmWithoutName c =
    let alone = rw c.in-Err-RealmWithoutName.field-0-is at c.in-Err-RealmWithoutName.ensures.first in
    record { value = (λ yes. realm_names c.args.bytes.now alone.0 alone.1 alone.2, λ named. refl) }
