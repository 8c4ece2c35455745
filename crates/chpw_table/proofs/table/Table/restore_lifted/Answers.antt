use Rattle.chpw_record.specs.declared.record.KeyKind.TheVariants.{Lift}
use Rattle.chpw_table.proofs.RestoringUpdateLemmas.{next_lifted, restored_for_all}
use Rattle.chpw_table.proofs.table.Table.restore_lifted.Goals as goal

pub returns-clause-step : goal.returns-clause-step
returns-clause-step c = λ s a. (
  next_lifted c.args.self.now.state s c.args.name.now c.args.key c.in_ok-placement.ensures.next a,
  restored_for_all c.args.self.now _ s Lift c.args.name.now c.args.key c.in_ok-placement.placement c.put_placed.ensures.value
      c.in_ok-placement.ensures.placed a,
)
