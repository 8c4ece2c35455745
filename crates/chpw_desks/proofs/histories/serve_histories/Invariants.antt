use Rattle.std.specs.Prelude.{is_some}
use Rattle.std.proofs.Common.{[], ◌≡◌, IfSome, length}
use Rattle.chpw_changelog.specs.Pens.{opening_table}
use Rattle.chpw_book.specs.Starting.{ledger_name, ledger_parts, list_book, list_root, workers_of}
use Rattle.chpw_desks.specs.Orders.{IsDueBy}
use Rattle.chpw_desks.specs.ServiceRuns.{IsRun, between}
use Rattle.chpw_desks.proofs.histories.serve_histories.Given as goal

abbrev pub ghosts-serve_history-D-DeskName : goal.ghosts-serve_history-D-DeskName
ghosts-serve_history-D-DeskName g a = record { workers = workers_of a.opening.unnamed; prior = [] }

abbrev pub ghosts-serve_history-D-Ledger : goal.ghosts-serve_history-D-Ledger
ghosts-serve_history-D-Ledger g a = record { name = ledger_name a.opening.unnamed; parts = ledger_parts a.opening.unnamed }

abbrev pub ghosts-serve_history-D-LogName : goal.ghosts-serve_history-D-LogName
ghosts-serve_history-D-LogName g a = record { book = list_book a.opening.unnamed; root = list_root a.opening.unnamed }

abbrev pub invariant-loop : goal.invariant-loop
invariant-loop g l =
    IsRun (is_some l.context.kdc.socket) l.context.options.now (opening_table g.D.LogName.root) l.fn.first.passes.items l.fn.rules l.fn.workers.items
    (between l.served.table l.rules l.staff.items)
    × IfSome l.served.due (IsDueBy l.context.options.now l.rules.text.items)
    × (length l.staff.items ≡ l.context.workers)
