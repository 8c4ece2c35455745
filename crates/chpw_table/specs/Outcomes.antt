-- What one step of a table does to it, and to the sink of its journal.
use Rattle.std.specs.Prelude.{◌≡◌, ℕ, ◌+◌, ◌<◌, ◌≤◌, List, ◌++◌, Bool, ◌||◌, if◌then◌else◌, Option, option_map}
use Rattle.chpw_rules.specs.Limits.{entry_counts}
use Rattle.chpw_table.specs.declared.times.Moment.{Moment}
use Rattle.chpw_table.specs.declared.request.Opened.{Opened}
use Rattle.chpw_table.specs.declared.outcome.Outcome.{Outcome}
use Rattle.chpw_table.specs.State.{State}
use Rattle.chpw_table.specs.Verdicts.{is_done}
use Rattle.chpw_table.specs.Step.{step}
use Rattle.chpw_table.specs.declared.history.Event.{Event}
use Rattle.chpw_table.specs.History.{IsDecided, IsJudged, is_accepted, step_event}
use Rattle.chpw_table.specs.Journal.{appended, event_appended}
use Rattle.chpw_table.specs.Agreement.{Held, Agrees}

-- the machine's step from each state that the table agrees with, and one more event
pub record Steps (before later : Held) (now : Moment) (o : Opened) (r : Outcome) : Type 0 where
  pub legal : (s : State) → Agrees before.state s → IsDecided s now o r.io_failed r.verdict
  pub agrees : (s : State) → Agrees before.state s → Agrees later.state (step s now o r.io_failed)
  pub opened : r.opened ≡ o
  pub room : before.events < before.max_entries
  pub events : later.events ≡ before.events + 1
  pub seen : later.seen ≡ (if is_done r.verdict then before.seen + 1 else before.seen)
  pub max_entries : later.max_entries ≡ before.max_entries
  pub few : later.events ≤ entry_counts.high
  pub broken : later.state.broken ≡ (before.state.broken || r.io_failed)

-- a failed append is counted, and what the step appends joins the known bytes
pub record Writes {S : Type 0} (failed : S → ℕ) (told : S → Option (List ℕ)) (before : State) (old new : S) (o : Opened) (r : Outcome) : Type 0 where
  pub io : failed new ≡ (if r.io_failed then failed old + 1 else failed old)
  pub tells : (s : State) → Agrees before s → told new ≡ option_map (λ xs. xs ++ appended s o r.verdict) (told old)

-- the same of an event of any kind, with its verdict, whose append failed or not
pub record StepsBy (before later : Held) (now : Moment) (io : Bool) (event : Event) : Type 0 where
  pub legal : (s : State) → Agrees before.state s → IsJudged s now io event
  pub agrees : (s : State) → Agrees before.state s → Agrees later.state (step_event s now io event)
  pub room : before.events < before.max_entries
  pub events : later.events ≡ before.events + 1
  pub seen : later.seen ≡ (if is_accepted event then before.seen + 1 else before.seen)
  pub max_entries : later.max_entries ≡ before.max_entries
  pub few : later.events ≤ entry_counts.high
  pub broken : later.state.broken ≡ (before.state.broken || io)

pub record WritesBy {S : Type 0} (failed : S → ℕ) (told : S → Option (List ℕ)) (before : State) (old new : S) (io_failed : Bool) (event : Event) : Type 0 where
  pub io : failed new ≡ (if io_failed then failed old + 1 else failed old)
  pub tells : (s : State) → Agrees before s → told new ≡ option_map (λ xs. xs ++ event_appended s event) (told old)
