-- How long the program waits for a service: 30 seconds for a whole exchange.
use Rattle.std.specs.Prelude.{ℕ, ◌-◌, ◌&&◌, Bool, true, false, Option, Some, None, if◌then◌else◌}
use Rattle.std.specs.Time.{instant_nanos}
use Rattle.std.specs.declared.time.Instant.{Instant}
use Rattle.chpw_endings.specs.declared.ending.Ending.{Ending}
use Rattle.chpw_endings.specs.declared.ending.Ending.TheVariants.{Good, Faulty, Early, Unread, Unserved, Unbrought}
use Rattle.chpw_endings.specs.declared.ending.Ending.TheVariants.{EmptyPassword, ManyLines, BadArgument, Unconnected}
use Rattle.chpw_endings.specs.declared.ending.Ending.TheVariants.{Unanswered, TimedOut, Refused, Misused, NotText}

-- in nanoseconds
abbrev pub longest_wait : ℕ
longest_wait = 30000000000

-- what is left at a time until the end; a clock that can't be read sets no end, and each wait may be as long
abbrev pub left_nanos : Option Instant → Option Instant → ℕ
left_nanos (Some end) (Some now) = instant_nanos end - instant_nanos now
left_nanos (Some end) None = longest_wait
left_nanos None now = longest_wait

abbrev pub is_unanswered : Ending → Bool
is_unanswered Good = false
is_unanswered (Faulty file words) = false
is_unanswered (Early fault) = false
is_unanswered (Unread file) = false
is_unanswered (Unserved fault) = false
is_unanswered (Unbrought fault) = false
is_unanswered (EmptyPassword file) = false
is_unanswered (ManyLines file) = false
is_unanswered BadArgument = false
is_unanswered Unconnected = false
is_unanswered Unanswered = true
is_unanswered TimedOut = false
is_unanswered Refused = false
is_unanswered Misused = false
is_unanswered NotText = false

-- an exchange that ended without an answer is late once its time was over
abbrev pub when_late : Bool → Ending → Ending
when_late late ending = if late && is_unanswered ending then TimedOut else ending
