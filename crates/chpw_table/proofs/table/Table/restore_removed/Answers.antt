use Rattle.std.proofs.Common.{rules}
use Rattle.std.specs.Prelude.{IsSome}
use Rattle.chpw_record.specs.declared.record.KeyKind.TheVariants.{Remove}
use Rattle.chpw_table.specs.State.{keys_held}
use Rattle.chpw_table.specs.Updates.{blank_key}
use Rattle.chpw_table.proofs.RestoringUpdateLemmas.{next_removed, restored_for_all}
use Rattle.chpw_table.proofs.table.Table.restore_removed.Goals as goal

pub returns-clause-step : goal.returns-clause-step
returns-clause-step c =
    let held : IsSome (keys_held c.args.self.now.state c.args.name.now) = search rules in
    λ s a. (
      next_removed c.args.self.now.state s c.args.name.now blank_key held a,
      restored_for_all c.args.self.now _ s Remove c.args.name.now blank_key _ c.put_placed.ensures.value c.place_removed-placement.ensures.placed a,
    )
