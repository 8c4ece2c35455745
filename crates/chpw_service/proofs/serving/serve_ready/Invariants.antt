use Rattle.std.specs.Prelude.{[]}
use Rattle.chpw_book.specs.Starting.{ledger_name, ledger_parts, list_book, list_root, workers_of}
use Rattle.chpw_service.proofs.serving.serve_ready.Given as goal

abbrev pub ghosts-serve_opened-D-DeskName : goal.ghosts-serve_opened-D-DeskName
ghosts-serve_opened-D-DeskName g a = record { workers = workers_of a.opening.unnamed; prior = [] }

abbrev pub ghosts-serve_opened-D-Ledger : goal.ghosts-serve_opened-D-Ledger
ghosts-serve_opened-D-Ledger g a = record { name = ledger_name a.opening.unnamed; parts = ledger_parts a.opening.unnamed }

abbrev pub ghosts-serve_opened-D-LogName : goal.ghosts-serve_opened-D-LogName
ghosts-serve_opened-D-LogName g a = record { book = list_book a.opening.unnamed; root = list_root a.opening.unnamed }
