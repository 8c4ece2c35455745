use Rattle.std.proofs.Common.{refl}
use Rattle.krb_msgs.specs.Checks.{of_one}
use Rattle.krb_msgs.proofs.opening.read_record.Goals as goal

pub returns-in-Ok : goal.returns-in-Ok
returns-in-Ok g c = of_one c.in-Ok.value c.in-Ok.ensures.value refl
