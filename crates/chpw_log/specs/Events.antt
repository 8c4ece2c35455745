-- The lines of the service's own events: the moment, `service`, and words and numbers with a space between any two. The
-- line of a message has `worker` in place of `service`.
use Rattle.std.specs.Prelude.{ℕ, ◌<◌, List, ◌++◌, codes, Option, Some, None}
use Rattle.std.specs.Option.{ForSome}
use Rattle.std.specs.Fmt.{decimal}
use Rattle.chpw_table.specs.declared.times.Moment.{Moment}
use Rattle.chpw_table.specs.Times.{IsMoment}
use Rattle.chpw_log.specs.declared.event.ServiceEvent.{ServiceEvent}
use Rattle.chpw_log.specs.declared.event.ServiceEvent.TheVariants.{Started, Reloaded, Raised, RolledOver, JournalFailed, LogReopened, Ended}
use Rattle.chpw_log.specs.Moments.{moment_text}

-- a moment that can be printed
abbrev pub IsWholeMoment : Moment → Type 0
IsWholeMoment moment = IsMoment moment × (moment.micros < 1000000)

abbrev pub IsQuietTold : ServiceEvent → Type 0
IsQuietTold (Started principals iterations quiet_until) = ForSome quiet_until IsWholeMoment
IsQuietTold (Reloaded principals iterations) = Unit {0}
IsQuietTold (Raised iterations) = Unit {0}
IsQuietTold (RolledOver entries changes) = Unit {0}
IsQuietTold JournalFailed = Unit {0}
IsQuietTold LogReopened = Unit {0}
IsQuietTold (Ended entries changes) = Unit {0}

abbrev pub both_words : List ℕ → ℕ → List ℕ → ℕ → List ℕ
both_words words number further other = words ++ decimal number ++ further ++ decimal other

-- `-` without a quiet time; else until when it lasts, and that it is no fault of the clients' clocks
abbrev pub quiet_text : List ℕ
quiet_text = codes " text requests are refused after a start; the clients' clocks are not at fault"

abbrev pub quiet_words : Option Moment → List ℕ
quiet_words None = codes "-"
quiet_words (Some until) = moment_text until ++ quiet_text

abbrev pub start_words : ℕ → ℕ → Option Moment → List ℕ
start_words principals iterations quiet_until =
    both_words (codes "started principals ") principals (codes " iterations ") iterations
    ++ codes " quiet-until " ++ quiet_words quiet_until

abbrev pub event_words : ServiceEvent → List ℕ
event_words (Started principals iterations quiet_until) = start_words principals iterations quiet_until
event_words (Reloaded principals iterations) = both_words (codes "reloaded principals ") principals (codes " iterations ") iterations
event_words (Raised iterations) = codes "raised iterations " ++ decimal iterations
event_words (RolledOver entries changes) = both_words (codes "rolled-over entries ") entries (codes " changes ") changes
event_words JournalFailed = codes "journal-failed"
event_words LogReopened = codes "log-reopened"
event_words (Ended entries changes) = both_words (codes "ended entries ") entries (codes " changes ") changes

abbrev pub event_line : Moment → ServiceEvent → List ℕ
event_line moment event = moment_text moment ++ codes " service " ++ event_words event ++ codes "\n"
