-- Whether bytes are UTF-8 is a test.
use Rattle.std.proofs.Common.{sym}
use Rattle.std.proofs.lemmas.Str.{is_utf8-from_IsUtf8}
use Rattle.chpw_config_text.proofs.TextLemmas.{utf8_refused}
use Rattle.chpw_config_text.proofs.names.is_text.Goals as goal

pub returns-in-Ok : goal.returns-in-Ok
returns-in-Ok c = record { value = sym (is_utf8-from_IsUtf8 c.args.bytes.now c.in-Ok.ensures.cases.1) }

pub returns-in-Err : goal.returns-in-Err
returns-in-Err c = record { value = sym (utf8_refused c.args.bytes.now c.in-Err.ensures.cases.0) }
