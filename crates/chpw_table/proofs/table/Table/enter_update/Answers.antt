use Rattle.std.proofs.Common.{Bool, ◌∙◌, ap}
use Rattle.chpw_table.specs.declared.updating.UpdateVerdict.{UpdateVerdict}
use Rattle.chpw_table.proofs.RaisingLemmas.{event_alone}
use Rattle.chpw_table.proofs.UpdatingLemmas.{ready_plan, ready_rest, entered_rest, entered_plan, told_rest, told_plan}
use Rattle.chpw_table.proofs.table.Table.enter_update.Goals as goal
use Rattle.chpw_table.proofs.table.Table.enter_update.Goals.{in-None, in-Some}

pub returns-clause-entered : goal.returns-clause-entered
returns-clause-entered g c =
    let ticked = event_alone c.args.self.now c.tick.new.self c.args.prepared.moment c.new.result c.tick.ensures.value c.new.ensures.empty in
    elim c.match-plan.branch [
      | in-None w ↦ entered_rest c.args.self.now c.tick.new.self _ c.args.prepared _ c.requires.ready w.in-None.is ticked w.self-is w.verdict-is
      | in-Some w ↦ entered_plan c.args.self.now c.tick.new.self _ c.args.prepared w.in-Some.plan _ _ c.requires.ready w.in-Some.is ticked
          (w.self-is ∙ w.write_update.ensures.value) w.verdict-is w.write_update.ensures.verdict
    ]

pub returns-clause-told : goal.returns-clause-told
returns-clause-told g c = elim c.match-plan.branch [
  | in-None w ↦ told_rest c.args.self.now c.args.prepared _ _ _ c.requires.ready w.in-None.is
      (ap (λ (r : UpdateVerdict × Bool). r.0) w.verdict-is) (ap g.S.JournalSink.told w.sink-is)
  | in-Some w ↦ told_plan c.args.self.now c.args.prepared w.in-Some.plan _ _ _ _ c.requires.ready w.in-Some.is
      (ap (λ (r : UpdateVerdict × Bool). r.0) w.verdict-is ∙ w.write_update.ensures.verdict)
      (ap g.S.JournalSink.told w.sink-is ∙ w.write_update.ensures.told)
]
