use Rattle.std.proofs.Common.{sym}
use Rattle.krb_codec.specs.Times.{time_octets}
use Rattle.krb_codec.proofs.TimeLemmas.{seconds_of-time_of, time_spelled, time_in_years, time_text_only, one_time}
use Rattle.krb_codec.proofs.laws.times.Goals as goal

pub returns-clause-inverse : goal.returns-clause-inverse
returns-clause-inverse c = seconds_of-time_of

pub returns-clause-texts : goal.returns-clause-texts
returns-clause-texts c = λ seconds. (λ h. (time_octets seconds, time_spelled seconds h), λ h. time_in_years h.0 seconds h.1)

pub returns-clause-one_text : goal.returns-clause-one_text
returns-clause-one_text c = λ text seconds h. sym (time_text_only text seconds h)

pub returns-clause-one_time : goal.returns-clause-one_time
returns-clause-one_time c = one_time
