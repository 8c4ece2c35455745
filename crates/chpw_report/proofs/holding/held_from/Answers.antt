use Rattle.chpw_report.proofs.FaultLemmas.{held_fault}
use Rattle.chpw_report.proofs.holding.held_from.Goals as goal

pub returns-in-Ok-restore_file-clause-held : goal.returns-in-Ok-restore_file-clause-held
returns-in-Ok-restore_file-clause-held g c = record {
  before = c.in-Ok.table;
  opens = c.in-Ok.ensures.opening;
  after = c.in-Ok-restore_file.restored;
  read = c.in-Ok-restore_file.ensures.restored;
  table = c.held_of.ensures.table;
  changes = c.held_of.ensures.changes;
  torn = c.held_of.ensures.torn;
}

pub returns-clause-fault : goal.returns-clause-fault
returns-clause-fault g c =
    held_fault c.args.config (g.F.Read.remaining c.args.journal) c.in-Err.fault c.in-Ok.table c.in-Ok.ensures.opening c.in-Err.ensures.first
