use Rattle.std.proofs.lemmas.Result.{on_ok_weaker}
use Rattle.chpw_import.proofs.ImportLemmas.{keyed}
use Rattle.chpw_import.proofs.key_command.write_password.Goals as goal

pub returns-clause-written : goal.returns-clause-written
returns-clause-written g c = on_ok_weaker c.write_note.result
    (keyed c.args.options c.args.name c.args.bytes.now c.in-Some.password.now _ _ _ _ _ _ c.in_ok-row.row
    c.in-Some.ensures.value c.in_ok-row.ensures.value c.in_ok-row.ensures.fits c.in_ok-text.ensures.text
    c.in_ok-text.ensures.reads c.as_bytes.ensures.value c.in_ok-write_text.ensures.written)
    c.write_note.ensures.written
