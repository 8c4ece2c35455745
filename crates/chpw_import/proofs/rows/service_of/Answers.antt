use Rattle.std.proofs.Common.{◌∙◌, sym, ◌-◌, length, arith}
use Rattle.chpw_import.specs.Rows.{service_row}
use Rattle.chpw_import.proofs.RowLemmas.{none_left, nothing_follows, goes_past, goes_on, finished}
use Rattle.chpw_import.proofs.rows.service_of.Goals as goal

pub returns-then-len-clause-value : goal.returns-then-len-clause-value
returns-then-len-clause-value c =
    finished _ _ _ c.loop-slot.invariant.2
    (none_left service_row (16 - length c.loop-slot.rows.items) c.loop-slot.slot-iterator (omega (arith, c.if-len.true, c.len.ensures)))

pub loop-slot-preserved-in-Continue-branch-4 : goal.loop-slot-preserved-in-Continue-branch-4
loop-slot-preserved-in-Continue-branch-4 c =
    let g = goes_on service_row 16 c.loop-slot.rows.items c.push.new.self.items _ c.loop-slot.slot-iterator
    (c.in-Some.slot.now, c.in-Some.key.now) c.next.new.self c.in-Some-2.row
    c.loop-slot.invariant.2 (omega (arith, c.if-len.false, c.len.ensures)) c.in-Some.ensures.steps
    (sym c.in_ok-row.ensures.value ∙ c.in-Some-2.is) c.in_ok-push.ensures.items in
    (tt, tt, g.0, g.1)

pub loop-slot-preserved : goal.loop-slot-preserved
loop-slot-preserved c = (
  tt,
  tt,
  goes_past service_row 16 c.loop-slot.rows.items _ c.loop-slot.slot-iterator (c.in-Some.slot.now, c.in-Some.key.now) c.next.new.self
      c.loop-slot.invariant.2 c.in-Some.ensures.steps (sym c.in_ok-row.ensures.value ∙ c.in_default.is),
  c.loop-slot.invariant.3,
)

pub returns-clause-value : goal.returns-clause-value
returns-clause-value c =
    finished _ _ _ c.loop-slot.invariant.2 (nothing_follows service_row
    (16 - length c.loop-slot.rows.items) c.loop-slot.slot-iterator c.in-None.ensures.steps.0)
