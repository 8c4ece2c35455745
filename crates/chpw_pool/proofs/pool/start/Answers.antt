use denote.Param.{param}
use denote.Param.Send.{sendable, shr_send, mut_send}
use Rattle.chpw_book.specs.contracts.pass.Pass as Pass
use Rattle.chpw_book.proofs.pass.Pass.TheSendSync as pass
use Rattle.chpw_book.proofs.SendLemmas.{desk_sync}
use Rattle.chpw_pool.proofs.SendLemmas.{context_sync, start_send, worker_send}
use Rattle.chpw_pool.proofs.pool.start.Goals as goal

pub spawn-requires-send-F : goal.spawn-requires-send-F
spawn-requires-send-F g c κs within =
    let passes = Pass.the_row (param 2 g.row.D) g.D.DeskName g.D.Ledger g.D.LogName in
    start_send _ _ _ _ _ _ _ (shr_send _ _ (param 0 g.row.R) (search sendable))
    (shr_send _ _ _ (context_sync _ _ (param 0 g.row.R) (param 1 g.row.M) (search sendable) (search sendable)))
    (shr_send _ _ _ (desk_sync (param 2 g.row.D) (param 3 g.row.S) g.D.DeskName g.D.Ledger g.D.LogName g.S.JournalSink
    (search sendable) (search sendable) (search sendable)))
    (mut_send _ _ passes (search (pass.the_send, sendable)))
    (worker_send _ _ (param 0 g.row.R) (search sendable))
