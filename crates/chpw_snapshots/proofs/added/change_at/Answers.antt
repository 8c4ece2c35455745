use Rattle.std.proofs.Common.{◌≤◌, length, arith}
use Rattle.chpw_snapshots.proofs.RowLemmas.{set-changed, past-changed}
use Rattle.chpw_snapshots.proofs.added.change_at.Goals as goal

pub returns-then-place-rows : goal.returns-then-place-rows
returns-then-place-rows c =
    record {
      value = set-changed c.args.kept c.args.change c.args.place
          c.args.rows.now c.index-rows-place.result c.change.new.self c.if-place-rows.true c.change.ensures.value;
    }

pub returns-else-place-rows : goal.returns-else-place-rows
returns-else-place-rows c =
    let past : length c.args.rows.now ≤ c.args.place = omega (arith, c.if-place-rows.false) in
    record { value = past-changed c.args.kept c.args.change c.args.place c.args.rows.now past }
