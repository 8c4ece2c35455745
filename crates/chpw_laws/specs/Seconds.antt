-- The times of the decision in digits: the skew, the quiet time, the last second.
use Rattle.std.specs.Prelude.{◌≡◌, ◌≢◌, ℕ, ℤ, pos, ◌*◌, ◌+ℤ◌, ◌-ℤ◌, ◌≤ℤ◌, ◌<ℤ◌, ◌%◌, ◌==◌, Bool, not, ◌&&◌, ◌||◌, if◌then◌else◌, sum, map, ◌⊎◌, Decides}
use Rattle.std.specs.List.{range_with_len}
use Rattle.chpw_table.specs.declared.times.TheConstants.{LAST_SECOND}
use Rattle.chpw_table.specs.declared.times.Moment.{Moment}
use Rattle.chpw_table.specs.declared.request.Opened.{Opened}
use Rattle.chpw_table.specs.declared.verdict.Verdict.TheVariants.{Skew}
use Rattle.chpw_table.specs.State.{State}
use Rattle.chpw_table.specs.Times.{clock_at, is_later}
use Rattle.chpw_table.specs.Decision.{verdict}

-- neither time is more than 300 seconds after the other
abbrev pub AreNear : ℤ → ℤ → Type 0
AreNear one other = (one ≤ℤ (other +ℤ pos 300)) × (other ≤ℤ (one +ℤ pos 300))

-- they are this many seconds apart, whichever is the later one
abbrev pub AreApart : ℕ → ℤ → ℤ → Type 0
AreApart seconds one other = (one ≡ other +ℤ pos seconds) ⊎ (other ≡ one +ℤ pos seconds)

-- a request passes the first row exactly if its client's time is near the clock, and the quiet time was over by then;
-- both are whole seconds
abbrev pub PassesIfNear : Type 0
PassesIfNear = (s : State) (now : Moment) (o : Opened) (io : Bool) →
    (AreNear (clock_at s now) o.ctime → s.fixed.quiet_until <ℤ o.ctime → verdict s now o io ≢ Skew)
    × (verdict s now o io ≢ Skew → AreNear (clock_at s now) o.ctime × (s.fixed.quiet_until <ℤ o.ctime))

-- so a time that is 300 seconds from the clock, either way, is in
abbrev pub Apart300IsIn : Type 0
Apart300IsIn = (s : State) (now : Moment) (o : Opened) (io : Bool) →
    AreApart 300 (clock_at s now) o.ctime → s.fixed.quiet_until <ℤ o.ctime → verdict s now o io ≢ Skew

-- and one that is 301 seconds from it is not
abbrev pub Apart301IsOut : Type 0
Apart301IsOut = (s : State) (now : Moment) (o : Opened) (io : Bool) →
    AreApart 301 (clock_at s now) o.ctime → verdict s now o io ≡ Skew

-- no row reads the moment's microseconds, and the first row none of the client's time
abbrev pub MicrosAreNotRead : Type 0
MicrosAreNotRead = (s : State) (now : Moment) (o : Opened) (io : Bool) (micros : ℕ) →
    (verdict s (record now { micros = micros }) o io ≡ verdict s now o io)
    × (verdict s now o io ≡ Skew → verdict s now (record o { cusec = micros }) io ≡ Skew)

-- the tests on a ticket's times and on a timestamp: later is later by more than 300 seconds
abbrev pub LaterIsBy300 : Type 0
LaterIsBy300 = (time other : ℤ) → Decides (is_later time other) ((other +ℤ pos 300) <ℤ time)

-- after a start that is quiet for 300 seconds, a client's time up to 300 seconds after it is out, and one from the 301st
-- second on is in if it is near the clock
abbrev pub QuietIs300 : Type 0
QuietIs300 = (start : ℤ) (s : State) (now : Moment) (o : Opened) (io : Bool) →
    s.fixed.quiet_until ≡ start +ℤ pos 300 →
    (o.ctime ≤ℤ (start +ℤ pos 300) → verdict s now o io ≡ Skew)
    × ((start +ℤ pos 301) ≤ℤ o.ctime → AreNear (clock_at s now) o.ctime → verdict s now o io ≢ Skew)

-- after a start that is quiet up to 301 seconds before itself, as it is where no journal was found, no time is out that
-- is near the clock, which is no earlier than the start
abbrev pub QuietNever : Type 0
QuietNever = (start : ℤ) (s : State) (now : Moment) (o : Opened) (io : Bool) →
    s.fixed.quiet_until ≡ start -ℤ pos 301 → start ≤ℤ clock_at s now →
    AreNear (clock_at s now) o.ctime → verdict s now o io ≢ Skew

-- a year that 4 divides has 366 days, but of those that 100 divides only each that 400 divides
abbrev pub is_leap : ℕ → Bool
is_leap year = (year % 4 == 0) && (not (year % 100 == 0) || (year % 400 == 0))

abbrev pub days_in : ℕ → ℕ
days_in year = if is_leap year then 366 else 365

-- the 8030 years from 1970 to 9999
abbrev pub days_to_9999 : ℕ
days_to_9999 = sum (map days_in (range_with_len 1970 8030))

-- the last second of 9999 is the one before that many days of 86400 seconds are over
abbrev pub LastSecondIsOf9999 : Type 0
LastSecondIsOf9999 = LAST_SECOND +ℤ pos 1 ≡ pos (days_to_9999 * 86400)
