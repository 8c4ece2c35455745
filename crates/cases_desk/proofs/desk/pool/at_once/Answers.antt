use denote.Param.{param}
use denote.Param.Send.{sendable, shr_send, mut_send}
use Rattle.std.specs.contracts.alloc.Global as Global
use Rattle.std.proofs.alloc.Global.TheSendSync as global
use Rattle.std.specs.contracts.vec.Vec as Vec
use Rattle.std.specs.contracts.impls.GlobalAllocator.TheImpl as allocator
use Rattle.std.proofs.Crossing
use Rattle.std.proofs.vec.Vec.TheSendSync as vec
use Rattle.std.specs.contracts.net.tcp.TcpListener as TcpListener
use Rattle.std.proofs.net.tcp.TcpListener.TheSendSync as listener
use Rattle.chpw_book.specs.contracts.pass.Pass as Pass
use Rattle.chpw_book.specs.contracts.desk.Desk as Desk
use Rattle.chpw_book.proofs.pass.Pass.TheSendSync as pass
use Rattle.chpw_book.proofs.SendLemmas.{desk_sync}
use Rattle.chpw_journal.specs.contracts.memory_sink.MemorySink as MemorySink
use Rattle.chpw_journal.specs.contracts.memory_sink.MemorySinkJournalSink.TheImpl as sink
use Rattle.chpw_journal.proofs.memory_sink.MemorySink.TheSendSync as memory
use Rattle.chpw_messages.specs.contracts.service.Service as Service
use Rattle.chpw_messages.proofs.service.Service.TheSendSync as service
use Rattle.cases_desk.proofs.SendLemmas.{six_send}
use Rattle.cases_desk.proofs.desk.pool.at_once.Goals as goal

pub join-served-requires-send-F : goal.join-served-requires-send-F
join-served-requires-send-F g c κs within =
    let desk = Desk.the_row (param 0 g.row.D) MemorySink.the_row g.D.DeskName g.D.Ledger g.D.LogName sink.ghosts in
    let passes = Vec.the_row (Pass.the_row (param 0 g.row.D) g.D.DeskName g.D.Ledger g.D.LogName) Global.the_row allocator.ghosts in
    six_send _ _ _ _ _ _ _ _ _ (shr_send _ _ (param 1 g.row.R) (search sendable)) (shr_send _ _ Global.the_row (search (global.the_sync, sendable)))
    (shr_send _ _ TcpListener.the_row (search (listener.the_sync, sendable))) (shr_send _ _ Service.the_row (search (service.the_sync, sendable)))
    (shr_send _ _ desk (search (desk_sync, memory.the_send, sendable)))
    (mut_send _ _ passes (search (vec.the_send, pass.the_send, global.the_send, Crossing.crosses, sendable) depth 20))
