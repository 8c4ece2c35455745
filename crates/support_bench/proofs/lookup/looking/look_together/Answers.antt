use denote.Param.{param}
use denote.Param.Send.{sendable, shr_sync}
use Rattle.std.specs.contracts.sync.atomic.AtomicU64 as AtomicU64
use Rattle.std.proofs.sync.atomic.AtomicU64.TheSendSync as atomic
use Rattle.chpw_book.specs.contracts.desk.Desk as Desk
use Rattle.chpw_book.proofs.SendLemmas.{desk_sync}
use Rattle.support_bench.specs.contracts.lookup.looking.Sought as Sought
use Rattle.support_bench.proofs.lookup.looking.Sought.TheSendSync as sought
use Rattle.support_bench.proofs.SendLemmas.{three_sync}
use Rattle.support_bench.proofs.lookup.looking.look_together.Goals as goal

pub for_each_mut-requires-sync-F : goal.for_each_mut-requires-sync-F
for_each_mut-requires-sync-F g c κs within =
    let desk = Desk.the_row (param 0 g.row.D) (param 1 g.row.S) g.D.DeskName g.D.Ledger g.D.LogName g.S.JournalSink in
    three_sync _ _ _ _ _ _ (shr_sync _ _ AtomicU64.the_row (search (atomic.the_sync, sendable)))
    (shr_sync _ _ desk (search (desk_sync, sendable))) (shr_sync _ _ Sought.the_row (search (sought.the_sync, sendable)))
