-- Workers may share a desk: what it holds may go to another thread where the sink and what desks are named by may.
use denote.RattleType.{RattleType}
use denote.Param.Send.{IsSend, IsSync, sendable}
use Rattle.std.proofs.Crossing
use Rattle.std.proofs.sync.Mutex.TheSendSync as mutex
use Rattle.std.specs.declared.sync.ledger.Ledger
use Rattle.chpw_table.specs.declared.sink.JournalSink
use Rattle.chpw_table.proofs.SendLemmas.{table_send}
use Rattle.chpw_table.proofs.standing.StandingRules.TheSendSync as standing
use Rattle.chpw_changelog.specs.declared.log_name.LogName
use Rattle.chpw_snapshots.proofs.writer.SnapshotWriter.TheSendSync as snapshots
use Rattle.chpw_book.specs.declared.naming.DeskName
use Rattle.chpw_book.specs.contracts.recorded.RecordedTable as RecordedTable
use Rattle.chpw_book.specs.contracts.book.Book as Book
use Rattle.chpw_book.specs.contracts.desk.Desk as Desk
use Rattle.chpw_book.proofs.history.History.TheSendSync as history

module _ (D S : RattleType) (g : DeskName.Ghosts D.Denot) (g' : Ledger.Ghosts D.Denot) (g'' : LogName.Ghosts D.Denot) (h : JournalSink.Ghosts S.Denot) where
  recorded_send : IsSend D → IsSend S → IsSend (RecordedTable.the_row D S g g' g'' h)
  recorded_send d s = search (table_send, history.the_field_send, sendable) depth 40

  book_send : IsSend D → IsSync D → IsSend S → IsSend (Book.the_row D S g g' g'' h)
  book_send d y s = search (recorded_send, snapshots.the_send, sendable) depth 40

  pub desk_sync : IsSend D → IsSync D → IsSend S → IsSync (Desk.the_row D S g g' g'' h)
  desk_sync d y s = search (book_send, mutex.the_sync, standing.the_sync, Crossing.crosses, sendable) depth 40
