use Rattle.chpw_printing.proofs.TimeLemmas.{time_field}
use Rattle.chpw_control.specs.Statuses.{text_of}
use Rattle.chpw_control.proofs.EndingLemmas.{always, field_plain}
use Rattle.chpw_control.proofs.telling.put_told.Goals as goal

pub returns-clause-plain : goal.returns-clause-plain
returns-clause-plain c =
    let time = c.args.time in
    let told = c.requires.time in
    always c.put_time.result (field_plain (text_of time) (time_field time.seconds time.micros told.0 told.1))
