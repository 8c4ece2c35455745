use denote.Param.{param}
use denote.Param.Send.{sendable, shr_sync}
use Rattle.std.specs.contracts.alloc.Global as Global
use Rattle.std.proofs.alloc.Global.TheSendSync as global
use Rattle.std.specs.contracts.sync.Barrier as Barrier
use Rattle.std.proofs.sync.Barrier.TheSendSync as barrier
use Rattle.chpw_book.specs.contracts.desk.Desk as Desk
use Rattle.chpw_book.proofs.SendLemmas.{desk_sync}
use Rattle.chpw_journal.specs.contracts.memory_sink.MemorySink as MemorySink
use Rattle.chpw_journal.specs.contracts.memory_sink.MemorySinkJournalSink.TheImpl as sink
use Rattle.chpw_journal.proofs.memory_sink.MemorySink.TheSendSync as memory
use Rattle.chpw_messages.specs.contracts.service.Service as Service
use Rattle.chpw_messages.proofs.service.Service.TheSendSync as service
use Rattle.cases_desk.specs.contracts.desk.racing.Told as Told
use Rattle.cases_desk.proofs.desk.racing.Told.TheSendSync as told
use Rattle.cases_desk.proofs.SendLemmas.{six_sync}
use Rattle.cases_desk.proofs.desk.racing.race.Goals as goal

pub for_each_mut-requires-sync-F : goal.for_each_mut-requires-sync-F
for_each_mut-requires-sync-F g c κs within =
    let desk = Desk.the_row (param 0 g.row.D) MemorySink.the_row g.D.DeskName g.D.Ledger g.D.LogName sink.ghosts in
    six_sync _ _ _ _ _ _ _ _ _ (shr_sync _ _ (param 1 g.row.R) (search sendable)) (shr_sync _ _ Barrier.the_row (search (barrier.the_sync, sendable)))
    (shr_sync _ _ Global.the_row (search (global.the_sync, sendable))) (shr_sync _ _ Service.the_row (search (service.the_sync, sendable)))
    (shr_sync _ _ desk (search (desk_sync, memory.the_send, sendable))) (shr_sync _ _ Told.the_row (search (told.the_sync, sendable)))
