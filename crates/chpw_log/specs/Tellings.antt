-- For proofs alone: what the program's fields say.
use Rattle.std.specs.Option.{option_map}
use Rattle.chpw_log.specs.declared.message_event.LogFields.{LogFields}
use Rattle.chpw_log.specs.Lines.{Outcome, named}

abbrev pub said : LogFields → Outcome
said t = record {
  client = option_map named t.client;
  target = option_map named t.target;
  code = t.code;
  error = t.error;
  kvno = t.kvno;
  text = t.text.now;
}
