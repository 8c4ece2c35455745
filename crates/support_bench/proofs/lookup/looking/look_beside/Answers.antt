use denote.Param.{param}
use denote.Param.Send.{sendable, shr_send, mut_send}
use Rattle.chpw_table.specs.contracts.request.Opened as Opened
use Rattle.chpw_table.proofs.request.Opened.TheSendSync as opened
use Rattle.chpw_book.specs.contracts.pass.Pass as Pass
use Rattle.chpw_book.specs.contracts.desk.Desk as Desk
use Rattle.chpw_book.proofs.pass.Pass.TheSendSync as pass
use Rattle.chpw_book.proofs.SendLemmas.{desk_sync}
use Rattle.support_bench.proofs.SendLemmas.{four_send}
use Rattle.support_bench.proofs.lookup.looking.look_beside.Goals as goal

pub join-decided-requires-send-F : goal.join-decided-requires-send-F
join-decided-requires-send-F g c κs within =
    let desk = Desk.the_row (param 0 g.row.D) (param 1 g.row.S) g.D.DeskName g.D.Ledger g.D.LogName g.S.JournalSink in
    let passes = Pass.the_row (param 0 g.row.D) g.D.DeskName g.D.Ledger g.D.LogName in
    four_send _ _ _ _ _ _ Opened.the_row (shr_send _ _ desk (search (desk_sync, sendable))) (shr_send _ _ (param 2 g.row.R) (search sendable))
    (mut_send _ _ passes (search (pass.the_send, sendable))) (search (opened.the_send, sendable))
