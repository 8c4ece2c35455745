-- What agrees with `settings` is within the limits and has a service key.
use Rattle.toml.specs.View.{table_view}
use Rattle.chpw_config.proofs.FitLemmas.{fits_from_settings, keys_from_settings}
use Rattle.chpw_config.proofs.reading.read_config.Goals as goal

pub returns-in-Ok-clause-fits : goal.returns-in-Ok-clause-fits
returns-in-Ok-clause-fits c =
    fits_from_settings (table_view c.in-Ok.file) c.read_settings.result c.read_settings.ensures.value

pub returns-in-Ok-clause-keys : goal.returns-in-Ok-clause-keys
returns-in-Ok-clause-keys c =
    keys_from_settings (table_view c.in-Ok.file) c.read_settings.result c.read_settings.ensures.value
