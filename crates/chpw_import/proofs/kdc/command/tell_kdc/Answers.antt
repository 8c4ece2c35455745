-- A fault of the agent's answer is one of the command.
use Rattle.std.proofs.Common.{None}
use Rattle.chpw_import.proofs.KdcImportLemmas.{kdc_fault}
use Rattle.chpw_import.proofs.kdc.command.tell_kdc.Goals as goal

pub returns : goal.returns
returns g c = record { fault = kdc_fault c.args.options c.in_ok-patterns.patterns None c.in-Err.fault c.in-Err.ensures.fault }
