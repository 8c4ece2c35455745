use denote.Param.{param}
use denote.Param.Send.{sendable, shr_send}
use Rattle.chpw_book.proofs.SendLemmas.{desk_sync}
use Rattle.chpw_workers.proofs.SendLemmas.{context_sync, placed_send, start_send}
use Rattle.chpw_workers.proofs.shift.start.Goals as goal

pub spawn_with-requires-send-F : goal.spawn_with-requires-send-F
spawn_with-requires-send-F g c κs within =
    start_send _ _ _ _ _ _ (shr_send _ _ (param 0 g.row.R) (search sendable))
    (shr_send _ _ _ (context_sync _ (param 1 g.row.M) (param 8 g.row.T) (search sendable) (search sendable)))
    (shr_send _ _ _ (desk_sync (param 2 g.row.D) (param 3 g.row.S) g.D.DeskName g.D.Ledger g.D.LogName g.S.JournalSink
    (search sendable) (search sendable) (search sendable)))
    (placed_send (param 2 g.row.D) (param 4 g.row.I) (param 5 g.row.G) (param 6 g.row.C) (param 7 g.row.X) g.D.DeskName g.D.Ledger g.D.LogName
    (search sendable) (search sendable) (search sendable) (search sendable) (search sendable))
