-- Whether bytes are UTF-8 is a test.
use Rattle.std.proofs.lemmas.Str.{is_utf8-from_IsUtf8}
use Rattle.chpw_config_text.proofs.TextLemmas.{utf8_refused}
use Rattle.chpw_config_text.proofs.names.text.Goals as goal

pub returns-in-Ok-clause-just : goal.returns-in-Ok-clause-just
returns-in-Ok-clause-just c = is_utf8-from_IsUtf8 c.args.bytes.now c.in-Ok.ensures.cases.1

pub returns-in-Err-clause-just : goal.returns-in-Err-clause-just
returns-in-Err-clause-just c = utf8_refused c.args.bytes.now c.in-Err.ensures.cases.0
