use Rattle.chpw_laws.proofs.SecondLemmas.{passes_if_near, apart_300_is_in, apart_301_is_out, later_is_by_300, quiet_is_300, quiet_never, micros_are_not_read}
use Rattle.chpw_laws.proofs.laws.times.Goals as goal

pub returns-clause-near : goal.returns-clause-near
returns-clause-near c = passes_if_near

pub returns-clause-inside : goal.returns-clause-inside
returns-clause-inside c = apart_300_is_in

pub returns-clause-outside : goal.returns-clause-outside
returns-clause-outside c = apart_301_is_out

pub returns-clause-later : goal.returns-clause-later
returns-clause-later c = later_is_by_300

pub returns-clause-quiet : goal.returns-clause-quiet
returns-clause-quiet c = quiet_is_300

pub returns-clause-never : goal.returns-clause-never
returns-clause-never c = quiet_never

pub returns-clause-micros : goal.returns-clause-micros
returns-clause-micros c = micros_are_not_read
