use Rattle.chpw_laws.proofs.WorkedHistory.{one_is_enough}
use Rattle.chpw_laws.proofs.laws.one_between.Goals as goal

pub returns : goal.returns
returns c = record { enough = one_is_enough c.published_values.ensures.aes_256_key }
