-- What agrees with the definition is within the limits.
use Rattle.std.specs.Option.{option_map}
use Rattle.toml.specs.View.{view}
use Rattle.chpw_config.proofs.KdcLemmas.{fits_from_kdc}
use Rattle.chpw_config.proofs.kdc.read_kdc.Goals as goal

pub returns-in-Ok-clause-fits : goal.returns-in-Ok-clause-fits
returns-in-Ok-clause-fits c =
    fits_from_kdc (option_map (λ v. view v.now) c.get.result) c.read_settings.result c.read_settings.ensures.value
