use Rattle.std.specs.Fmt.{decimal}
use Rattle.chpw_control.proofs.EndingLemmas.{field_plain}
use Rattle.chpw_control.proofs.telling.put_count.Goals as goal

pub returns-clause-plain : goal.returns-clause-plain
returns-clause-plain c = field_plain (decimal c.args.number) c.put_number.ensures.field
