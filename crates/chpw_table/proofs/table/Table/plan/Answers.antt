use Rattle.std.proofs.Common.{rules}
use Rattle.chpw_table.proofs.PlacingLemmas.{taken_name}
use Rattle.chpw_table.proofs.table.Table.plan.Goals as goal

pub key_bytes-requires : goal.key_bytes-requires
key_bytes-requires c = record {
  name = rw c.name.ensures.value (taken_name c.args.self.now.state c.args.update.now (search rules) c.requires.fits c.requires.taken);
}
