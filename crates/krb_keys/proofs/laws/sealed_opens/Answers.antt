use Rattle.std.proofs.Common.{refl}
use Rattle.krb_keys.specs.Laws.{SealedOpens}
use Rattle.krb_keys.specs.Sealing.{sealed, IsSealed}
use Rattle.krb_keys.proofs.SealingLemmas.{sealed_once}
use Rattle.krb_keys.proofs.laws.sealed_opens.Goals as goal

opens : SealedOpens
opens key usage confounder plain is_key c16 some cb pb =
    let is : IsSealed key usage (sealed key usage confounder plain) plain = (confounder, c16, some, cb, pb, refl) in
    (is, λ other also. sealed_once key usage _ other plain is_key also is)

pub returns : goal.returns
returns c = record { only = opens }
