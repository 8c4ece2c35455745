-- Counters of a running service, and its events.
use Rattle.std.specs.Prelude.{ℕ, ℤ, pos, ◌+◌, min, length, Option, Some, None, ◌||◌, if◌then◌else◌, int_lt, int_le}
use Rattle.std.specs.Option.{option_map}
use Rattle.chpw_log.specs.declared.event.ServiceEvent.{ServiceEvent}
use Rattle.chpw_log.specs.declared.event.ServiceEvent.TheVariants as event
use Rattle.chpw_log.specs.declared.message_event.MessageEvent.{MessageEvent}
use Rattle.chpw_log.specs.declared.message_event.MessageEvent.TheVariants.{Decided, Full, Unopened}
use Rattle.chpw_table.specs.Agreement.{Held}
use Rattle.chpw_table.specs.State.{new_count}
use Rattle.chpw_table.specs.Verdicts.{is_done}
use Rattle.chpw_table.specs.declared.times.Moment.{Moment}
use Rattle.chpw_table.specs.declared.verdict.Verdict.{Verdict}
use Rattle.chpw_control.specs.declared.time.Time.{Time}
use Rattle.chpw_logging.specs.declared.counters.Counters.{Counters}
use Rattle.chpw_start.specs.declared.raising.RaiseReport.{RaiseReport}
use Rattle.chpw_start.specs.declared.raising.RaiseReport.TheVariants as report

-- up to 64 bits
abbrev pub plus : ℕ → ℕ → ℕ
plus n more = min (n + more) 18446744073709551615

-- a history opens with this table
abbrev pub after_opening : Counters → Held → Counters
after_opening f t = record f {
  principals = length t.state.principals;
  iterations = new_count t.state;
  quiet_until = t.state.fixed.quiet_until;
  entries = 0;
  changes = 0;
}

-- a request that was decided is an entry, and one that changed a password a change
abbrev pub change_of : Verdict → ℕ
change_of verdict = if is_done verdict then 1 else 0

abbrev pub behind_decision : Counters → Verdict → Counters
behind_decision f verdict = record f {
  entries = plus f.entries 1;
  all_entries = plus f.all_entries 1;
  changes = plus f.changes (change_of verdict);
  all_changes = plus f.all_changes (change_of verdict);
}

-- a raise is an entry, and no change
abbrev pub behind_raise : Counters → ℕ → Counters
behind_raise f iterations = record f {
  iterations = iterations;
  entries = plus f.entries 1;
  all_entries = plus f.all_entries 1;
}

-- so is an update from the KDC, however it was decided
abbrev pub after_update : Counters → Counters
after_update f = record f { entries = plus f.entries 1; all_entries = plus f.all_entries 1 }

-- the line of a message: only a decision is counted
abbrev pub after_line : Counters → MessageEvent → Counters
after_line f (Decided asked verdict kvno) = behind_decision f verdict
after_line f (Full asked refusal) = f
after_line f (Unopened refusal) = f

-- a raise is counted however it was decided, and not if the history was full
abbrev pub after_raise : Counters → RaiseReport → Counters
after_raise f (report.Raised count) = behind_raise f count
after_raise f report.NotHigher = behind_raise f f.iterations
after_raise f report.Broken = behind_raise f f.iterations
after_raise f report.Full = f

-- no moment if no time is quiet; the end of the year 9999 for a later one
abbrev pub quiet_time : ℤ → ℤ → Option Time
quiet_time until now = if int_lt until (pos 0) || int_lt until now then None
    else Some (record { seconds = if int_le until (pos 253402300799) then until else pos 253402300799; micros = 0 })

abbrev pub moment_of : Time → Moment
moment_of t = record { seconds = t.seconds; micros = t.micros }

abbrev pub quiet_moment : ℤ → ℤ → Option Moment
quiet_moment until now = option_map moment_of (quiet_time until now)

-- ---- the events

-- up to 32 bits
abbrev pub principals_told : Held → ℕ
principals_told t = min (length t.state.principals) 4294967295

abbrev pub started_event : Held → Moment → ServiceEvent
started_event t now =
    event.Started (principals_told t) (new_count t.state) (quiet_moment t.state.fixed.quiet_until now.seconds)

abbrev pub reloaded_event : Held → ServiceEvent
reloaded_event t = event.Reloaded (principals_told t) (new_count t.state)

-- only a raise that was made has one
abbrev pub raised_event : RaiseReport → Option ServiceEvent
raised_event (report.Raised count) = Some (event.Raised count)
raised_event report.NotHigher = None
raised_event report.Broken = None
raised_event report.Full = None

-- the counts of the history that ends, and of all
abbrev pub rolled_over_event : Counters → ServiceEvent
rolled_over_event f = event.RolledOver f.entries f.changes

abbrev pub ended_event : Counters → ServiceEvent
ended_event f = event.Ended f.all_entries f.all_changes
