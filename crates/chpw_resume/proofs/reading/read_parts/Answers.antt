use Rattle.std.proofs.Common.{get_or, [], sym, ap}
use Rattle.chpw_resume.proofs.reading.read_parts.Goals as goal

pub returns-in_default : goal.returns-in_default
returns-in_default c = record {
  value = λ r f e. c.in_default.ensures.value r.journal r.carried.clock r.carried.quiet_until f.sum (sym (ap (λ l. get_or l 1 []) e));
}
