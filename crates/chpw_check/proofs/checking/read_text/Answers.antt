use Rattle.std.proofs.Common.{refl}
use Rattle.chpw_commands.proofs.TextLemmas.{utf8_no, utf8_yes}
use Rattle.chpw_check.proofs.checking.read_text.Goals as goal

pub returns-in-Ok : goal.returns-in-Ok
returns-in-Ok c = record { value = rw (utf8_yes c.args.text.now c.in-Ok.ensures.cases.1, ← c.in-Ok.ensures.cases.0) c.read_whole.ensures.value }

pub returns-in-Err : goal.returns-in-Err
returns-in-Err c = record { value = rw (utf8_no c.args.text.now c.in-Err.ensures.cases.0, c.not_toml.ensures.value) refl }
