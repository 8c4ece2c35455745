use Rattle.chpw_record.specs.declared.record.KeyKind.TheVariants.{Adopt}
use Rattle.chpw_table.proofs.RestoringUpdateLemmas.{next_adopted, restored_for_all}
use Rattle.chpw_table.proofs.table.Table.restore_adopted.Goals as goal

pub returns-clause-step : goal.returns-clause-step
returns-clause-step c = λ s a. (
  next_adopted c.args.self.now.state s c.args.name.now c.args.key c.in_ok-placement.ensures.next a,
  restored_for_all c.args.self.now _ s Adopt c.args.name.now c.args.key c.in_ok-placement.placement c.put_placed.ensures.value
      c.in_ok-placement.ensures.placed a,
)
