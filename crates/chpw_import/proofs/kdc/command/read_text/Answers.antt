use Rattle.std.proofs.Common.{refl}
use Rattle.chpw_import.proofs.KdcImportLemmas.{utf8_no, utf8_yes}
use Rattle.chpw_import.proofs.kdc.command.read_text.Goals as goal

pub returns-in-Ok : goal.returns-in-Ok
returns-in-Ok c = record { value = rw (utf8_yes c.args.bytes.now c.in-Ok.ensures.cases.1, ← c.in-Ok.ensures.cases.0) c.read_kdc.ensures.value }

pub returns-in-Err : goal.returns-in-Err
returns-in-Err c = record { value = rw (utf8_no c.args.bytes.now c.in-Err.ensures.cases.0, c.not_toml.ensures.value) refl }
