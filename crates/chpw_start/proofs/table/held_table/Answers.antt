use Rattle.chpw_start.proofs.table.held_table.Goals as goal

pub returns-in-Err-clause-fault : goal.returns-in-Err-clause-fault
returns-in-Err-clause-fault g c = c.journal_fault.ensures.fault c.args.journal.now
