use Rattle.chpw_import.proofs.ImportLemmas.{imported, late_fault}
use Rattle.chpw_import.proofs.import_command.write_keytab.Goals as goal

pub returns-in-Ok-clause-written : goal.returns-in-Ok-clause-written
returns-in-Ok-clause-written g c = imported c.args.options c.args.bytes.now c.in_ok-brought.brought _ _ _ _
    c.in_ok-brought.ensures.brought c.in_ok-brought.ensures.fits c.in-Ok.ensures.written c.in-Ok.ensures.told c.in-Ok.ensures.some

pub returns-clause-fault : goal.returns-clause-fault
returns-clause-fault g c = late_fault c.args.options c.args.bytes.now c.in_ok-brought.brought c.in-Err.fault
    c.in_ok-brought.ensures.brought c.in-Err.ensures.fault
