-- The machine's time as a moment.
use Rattle.std.specs.Prelude.{ℕ, ◌/◌, ◌%◌, ◌<ℤ◌, pos}
use Rattle.chpw_table.specs.declared.times.Moment.{Moment}
use Rattle.chpw_table.specs.declared.times.TheConstants.{LAST_SECOND}

-- the moment this many nanoseconds after 1970-01-01T00:00:00Z
abbrev pub moment_after : ℕ → Moment
moment_after nanos = record { seconds = pos (nanos / 1_000_000_000); micros = nanos % 1_000_000_000 / 1_000 }

-- a time after the year 9999
abbrev pub IsPast : ℕ → Type 0
IsPast nanos = LAST_SECOND <ℤ pos (nanos / 1_000_000_000)
