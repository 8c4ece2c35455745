use Rattle.std.specs.Prelude.{[]}
use Rattle.chpw_book.specs.Starting.{ledger_name, ledger_parts, list_book, list_root, workers_of}
use Rattle.cases_desk.proofs.desk.running.run.Given as goal

abbrev pub ghosts-run_at-D-DeskName : goal.ghosts-run_at-D-DeskName
ghosts-run_at-D-DeskName g a = record { workers = workers_of a.unnamed; prior = [] }

abbrev pub ghosts-run_at-D-Ledger : goal.ghosts-run_at-D-Ledger
ghosts-run_at-D-Ledger g a = record { name = ledger_name a.unnamed; parts = ledger_parts a.unnamed }

abbrev pub ghosts-run_at-D-LogName : goal.ghosts-run_at-D-LogName
ghosts-run_at-D-LogName g a = record { book = list_book a.unnamed; root = list_root a.unnamed }
