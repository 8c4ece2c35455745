use Rattle.std.proofs.Common.{◌∙◌, sym, ◌-◌, length, arith}
use Rattle.std.specs.BTreeMap.{get}
use Rattle.chpw_import.specs.Tables.{slot_cmp}
use Rattle.chpw_import.specs.Rows.{row_for}
use Rattle.chpw_import.proofs.OrderLemmas.{in_order}
use Rattle.chpw_import.proofs.RowLemmas.{none_left, nothing_follows, goes_past, goes_on, finished}
use Rattle.chpw_import.proofs.rows.principals_of.Goals as goal

pub returns-then-len-clause-value : goal.returns-then-len-clause-value
returns-then-len-clause-value c = finished _ _ _ c.loop-name.invariant.2
    (none_left (row_for (get slot_cmp c.args.table.now.found) c.args.iterations)
    (10000 - length c.loop-name.rows.items) c.loop-name.name-iterator (omega (arith, c.if-len.true, c.len.ensures)))

pub loop-name-preserved-in-Continue-branch-4 : goal.loop-name-preserved-in-Continue-branch-4
loop-name-preserved-in-Continue-branch-4 c =
    let g = goes_on (row_for (get slot_cmp c.args.table.now.found) c.args.iterations)
    10000 c.loop-name.rows.items c.push.new.self.items _ c.loop-name.name-iterator
    (c.in-Some.name.now, c.in-Some.newest.now) c.next.new.self c.in-Some-2.row
    c.loop-name.invariant.2 (omega (arith, c.if-len.false, c.len.ensures)) c.in-Some.ensures.steps
    (sym c.in_ok-row.ensures.value ∙ c.in-Some-2.is) c.in_ok-push.ensures.items in
    (tt, tt, g.0, g.1)

pub loop-name-preserved : goal.loop-name-preserved
loop-name-preserved c = (
  tt,
  tt,
  goes_past (row_for (get slot_cmp c.args.table.now.found) c.args.iterations) 10000 c.loop-name.rows.items _ c.loop-name.name-iterator
      (c.in-Some.name.now, c.in-Some.newest.now) c.next.new.self
      c.loop-name.invariant.2 c.in-Some.ensures.steps (sym c.in_ok-row.ensures.value ∙ c.in_default.is),
  c.loop-name.invariant.3,
)

pub returns-clause-value : goal.returns-clause-value
returns-clause-value c = finished _ _ _ c.loop-name.invariant.2
    (nothing_follows (row_for (get slot_cmp c.args.table.now.found) c.args.iterations)
    (10000 - length c.loop-name.rows.items) c.loop-name.name-iterator c.in-None.ensures.steps.0)

pub returns-then-len-clause-sorted : goal.returns-then-len-clause-sorted
returns-then-len-clause-sorted c = in_order (get slot_cmp c.args.table.now.found) c.args.iterations c.loop-name.rows.items c.args.table.now.newest.entries
    (returns-then-len-clause-value c) c.len-count.ensures.ordered

pub returns-clause-sorted : goal.returns-clause-sorted
returns-clause-sorted c = in_order (get slot_cmp c.args.table.now.found) c.args.iterations c.loop-name.rows.items c.args.table.now.newest.entries
    (returns-clause-value c) c.len-count.ensures.ordered
