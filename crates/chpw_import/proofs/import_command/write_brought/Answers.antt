use Rattle.chpw_import.proofs.ImportLemmas.{appended}
use Rattle.chpw_import.proofs.import_command.write_brought.Goals as goal

pub returns-clause-written : goal.returns-clause-written
returns-clause-written g c = appended _ _ _ _ _ _ _ _ c.as_slice.ensures.value c.as_slice-2.ensures.value
    c.in_ok-text.ensures.text c.in_ok-text.ensures.reads c.as_bytes.ensures.value c.in_ok-write_text.ensures.written
