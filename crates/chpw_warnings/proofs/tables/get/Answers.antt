-- What the map of a table finds is the member at the key.
use Rattle.toml.proofs.Views.{table_get}
use Rattle.chpw_warnings.proofs.tables.get.Goals as goal

pub returns : goal.returns
returns c = record { value = table_get c.get.result c.args.key.now c.args.table.now.entries c.get.ensures.value }
