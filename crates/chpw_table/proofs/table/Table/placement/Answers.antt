use Rattle.std.proofs.Common.{◌∙◌, ap, rules}
use Rattle.chpw_table.specs.declared.updating.KdcUpdate.{KdcUpdate}
use Rattle.chpw_table.specs.State.{keys_held}
use Rattle.chpw_table.specs.Updates.{key_in, name_in}
use Rattle.chpw_table.proofs.PlacingLemmas.{lifted_count}
use Rattle.chpw_table.proofs.table.Table.placement.Goals as goal

pub place_lifted-requires-clause-count : goal.place_lifted-requires-clause-count
place_lifted-requires-clause-count c =
    lifted_count c.args.self.now.state c.in-Lift.name c.in-Lift.kvno c.args.key (search rules)
    (c.requires.key ∙ ap (λ (u : KdcUpdate). key_in (keys_held c.args.self.now.state (name_in u)) u) c.in-Lift.is)
