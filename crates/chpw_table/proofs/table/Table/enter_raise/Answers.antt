use Rattle.std.proofs.Common.{sym, ◌∙◌}
use Rattle.chpw_table.proofs.RaisingLemmas.{event_alone, raised_verdict, raise_whole, entered_rest, entered_written, told_rest, told_raise}
use Rattle.chpw_table.proofs.table.Table.enter_raise.Goals as goal

pub write_raise-requires-clause-failures : goal.write_raise-requires-clause-failures
write_raise-requires-clause-failures g c =
    let raised = raised_verdict c.args.self.now.state c.args.count c.raise_row-row.result c.raise_row-row.ensures.value
    (sym c.is_raised.ensures.value ∙ c.if-is_raised.true) in
    c.requires.sink (raise_whole c.args.self.now.state c.args.count raised)

pub returns-then-is_raised-clause-entered : goal.returns-then-is_raised-clause-entered
returns-then-is_raised-clause-entered g c =
    let raised = raised_verdict c.args.self.now.state c.args.count c.raise_row-row.result c.raise_row-row.ensures.value
    (sym c.is_raised.ensures.value ∙ c.if-is_raised.true) in
    let ticked = event_alone c.args.self.now c.tick.new.self c.args.now c.new.result c.tick.ensures.value c.new.ensures.empty in
    entered_written c.args.self.now c.tick.new.self c.write_raise.new.self c.args.now c.args.count _
    _ ticked raised c.write_raise.ensures.value c.write_raise.ensures.verdict

pub returns-then-is_raised-clause-told : goal.returns-then-is_raised-clause-told
returns-then-is_raised-clause-told g c = told_raise c.args.count _ _ _ _ c.write_raise.ensures.verdict c.write_raise.ensures.told

pub returns-else-is_raised-clause-entered : goal.returns-else-is_raised-clause-entered
returns-else-is_raised-clause-entered g c =
    let ticked = event_alone c.args.self.now c.tick.new.self c.args.now c.new.result c.tick.ensures.value c.new.ensures.empty in
    entered_rest c.args.self.now c.tick.new.self c.args.now c.args.count c.raise_row-row.result ticked
    c.raise_row-row.ensures.value (sym c.is_raised.ensures.value ∙ c.if-is_raised.false)

pub returns-else-is_raised-clause-told : goal.returns-else-is_raised-clause-told
returns-else-is_raised-clause-told g c = told_rest c.args.count c.raise_row-row.result _ (sym c.is_raised.ensures.value ∙ c.if-is_raised.false)
