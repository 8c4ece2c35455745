use Rattle.std.proofs.Common.{◌≤◌, length, arith}
use Rattle.chpw_snapshots.proofs.RowLemmas.{set-changed, past-changed}
use Rattle.chpw_snapshots.proofs.row.change_at.Goals as goal

pub returns-then-number-rows : goal.returns-then-number-rows
returns-then-number-rows c =
    record {
      value = set-changed c.args.kept c.args.change c.args.number
          c.args.rows.now c.index-rows-number.result c.change.new.self c.if-number-rows.true c.change.ensures.value;
    }

pub returns-else-number-rows : goal.returns-else-number-rows
returns-else-number-rows c =
    let past : length c.args.rows.now ≤ c.args.number = omega (arith, c.if-number-rows.false) in
    record { value = past-changed c.args.kept c.args.change c.args.number c.args.rows.now past }
