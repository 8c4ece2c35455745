-- What is printed of a moment.
use Rattle.std.proofs.Common.{ℤ, rules}
use Rattle.krb_codec.specs.Times.{IsWritable}
use Rattle.chpw_table.specs.declared.times.Moment.{Moment}
use Rattle.chpw_table.specs.Times as table
use Rattle.chpw_printing.proofs.TimeLemmas.{time_told}
use Rattle.chpw_log.specs.Moments.{Tells, moment_text}

-- a moment's seconds can be printed
pub writable : (seconds : ℤ) → table.IsTime seconds → IsWritable seconds
writable seconds h = search (rules, h)

-- a moment's text tells it
pub moment_told : (m : Moment) → table.IsMoment m → Tells (moment_text m) m
moment_told m h = time_told m.seconds m.micros (writable m.seconds h)
