-- A fault once the answer is read.
use Rattle.chpw_import.specs.KdcChoices.{choice_of}
use Rattle.chpw_import.specs.KdcFaults.{Heard}
use Rattle.chpw_import.proofs.KdcImportLemmas.{late_fault}
use Rattle.chpw_import.proofs.kdc.command.import_from.Goals as goal

pub returns-clause-fault : goal.returns-clause-fault
returns-clause-fault g c =
    let heard : Heard c.args.options c.args.patterns.now c.in_ok-bytes.bytes.items (choice_of c.in_ok-import.import)
    = rw c.as_slice.ensures.value at c.in_ok-import.ensures.value in
    late_fault c.args.options c.args.patterns.now (g.A.Read.remaining c.args.answers) c.in_ok-bytes.bytes.items c.in_ok-import.import c.in-Err.fault
    c.in_ok-bytes.ensures.value heard c.in-Err.ensures.fault
