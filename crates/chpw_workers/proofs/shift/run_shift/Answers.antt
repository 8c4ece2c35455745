use Rattle.chpw_workers.proofs.SendLemmas.{passed_send, passed_sync}
use Rattle.chpw_workers.proofs.shift.run_shift.Goals as goal

pub scoped-requires : goal.scoped-requires
scoped-requires g c =
    let t = c.type_bounds in
    record {
      at = λ a. (
        passed_send 2 _ g.row.D t.send-D,
        passed_send 3 _ g.row.S t.send-S,
        passed_send 4 _ g.row.I t.send-I,
        passed_send 5 _ g.row.G t.send-G,
        passed_send 6 _ g.row.C t.send-C,
        passed_send 7 _ g.row.X t.send-X,
        passed_sync 0 _ g.row.R t.sync-R,
        passed_sync 1 _ g.row.M t.sync-M,
        passed_sync 2 _ g.row.D t.sync-D,
        passed_sync 8 _ g.row.T t.sync-T,
      );
    }
