use Rattle.std.specs.Prelude.{[]}
use Rattle.chpw_book.specs.Starting.{ledger_name, ledger_parts, list_book, list_root, workers_of}
use Rattle.support_bench.proofs.lookup.measure.Given as goal

abbrev pub ghosts-at_desk-D-DeskName : goal.ghosts-at_desk-D-DeskName
ghosts-at_desk-D-DeskName g a = record { workers = workers_of a.unnamed; prior = [] }

abbrev pub ghosts-at_desk-D-Ledger : goal.ghosts-at_desk-D-Ledger
ghosts-at_desk-D-Ledger g a = record { name = ledger_name a.unnamed; parts = ledger_parts a.unnamed }

abbrev pub ghosts-at_desk-D-LogName : goal.ghosts-at_desk-D-LogName
ghosts-at_desk-D-LogName g a = record { book = list_book a.unnamed; root = list_root a.unnamed }
