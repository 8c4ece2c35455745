-- A run of the service: one desk after the other, and at each the workers' turns, from their messages to the entries of its
-- history and the replies.
use Rattle.std.specs.Prelude.{◌≡◌, ◌⊎◌, ℕ, List, [], Bool, None, map, length}
use Rattle.std.specs.List.{range_with_len}
use Rattle.chpw_rules.specs.declared.config.Config.{Config}
use Rattle.chpw_record.specs.declared.record.Record.{Record}
use Rattle.chpw_table.specs.Agreement.{Held}
use Rattle.chpw_table.specs.declared.times.Moment.{Moment}
use Rattle.chpw_table.specs.declared.history.Entry.{Entry}
use Rattle.chpw_serve.specs.InTurn.{InTurn}
use Rattle.chpw_serve.specs.WordStreams.{gives_word}
use Rattle.chpw_messages.specs.Replies.{error_frame, private_frame}
use Rattle.chpw_messages.specs.Versions.{OpensUnder}
use Rattle.chpw_book.specs.Passes.{PassView, new_pass}
use Rattle.chpw_reactor.specs.Engines.{seat_turns}
use Rattle.chpw_workers.specs.Desks.{ServedDesk}
use Rattle.chpw_reload.specs.Reloads.{IsReload}
use Rattle.chpw_reload.specs.ReloadRuns.{IsServiceRun}
use Rattle.chpw_invocation.specs.declared.invocation.ServeOptions.{ServeOptions}
use Rattle.chpw_desks.specs.Following.{reopened}
use Rattle.chpw_book.specs.Newest.{AreHeldAfter}
use Rattle.chpw_start.specs.Rules.{AreRulesOf}
use Rattle.chpw_desks.specs.Staff.{ServiceWorker}
use Rattle.chpw_start.specs.declared.rules.Rules.{Rules}

-- a clock's next moment is the last one that it has given
abbrev pub gives_moment : Moment → Moment → Moment → Type 0
gives_moment before moment after = after ≡ moment

-- At one desk, from the table that it opens with to the one that it leaves: the workers, of whom each has a pass, answer the
-- messages that come to their seats by these rules, for the realm, with the keys, and of the kind that these accept. This is what
-- the history has.
abbrev pub IsServed : {R L : Type 0} → Bool → Rules → Held → List PassView → List (ServiceWorker R L)
    → List (ServiceWorker R L) → List Entry → Held → Type 0
IsServed has_kdc rules opening passes before after history left =
    ServedDesk gives_moment gives_word seat_turns (error_frame rules.service.realm) private_frame
    (OpensUnder rules.service.accepts rules.service.realm rules.service.keys) (AreHeldAfter opening.state) has_kdc
    opening.state (length passes) passes before after history left [] None

-- a reload of the table that was left, with the configuration that the rules' text sets and some records of the journal; and
-- the rules are those of that configuration
pub record IsReloadBy (options : ServeOptions) (left next : Held) (rules : Rules) : Type 0 where
  pub config : Config
  pub rules_are : AreRulesOf config options rules
  pub records : List Record
  pub reload : IsReload config records left.state next.state
  pub room : next.max_entries ≡ rules.max_entries

-- The next desk opens with the table that was left, and is served by the same rules: the history was full, or the journal was
-- made compact. Or it opens with a reload, and is served by its rules.
abbrev pub GoesOnBy : ServeOptions → Held → Rules → Held → Rules → Type 0
GoesOnBy options left old next new = ((next ≡ reopened left) × (new ≡ old)) ⊎ IsReloadBy options left next new

-- where a service is between two desks: the table that was left, the rules in force, and the workers
pub record Between (R L : Type 0) : Type 0 where
  pub table : Held
  pub rules : Rules
  pub workers : List (ServiceWorker R L)

abbrev pub between : {R L : Type 0} → Held → Rules → List (ServiceWorker R L) → Between R L
between table rules workers = record { table = table; rules = rules; workers = workers }

-- a desk: the table that it opened with, and its history
pub record DeskRun : Type 0 where
  pub opening : Held
  pub history : List Entry

-- a pass for each worker, without receipts
abbrev pub new_passes : ℕ → List PassView
new_passes workers = map new_pass (range_with_len 0 workers)

-- one more desk: it goes on from where the service was, and its workers from where they were
pub record IsNextDesk {R L : Type 0} (has_kdc : Bool) (options : ServeOptions) (before : Between R L) (desk : DeskRun)
    (after : Between R L) : Type 0 where
  pub goes_on : GoesOnBy options before.table before.rules desk.opening after.rules
  pub served : IsServed has_kdc after.rules desk.opening (new_passes (length before.workers)) before.workers after.workers
      desk.history after.table

-- THE RUN: from a first desk, at which a raise may have had an entry already, with these workers and rules, one desk after the
-- other has led to where the service is.
pub record IsRun {R L : Type 0} (has_kdc : Bool) (options : ServeOptions) (opening : Held) (passes : List PassView)
    (rules : Rules) (workers : List (ServiceWorker R L)) (now : Between R L) : Type 0 where
  pub history : List Entry
  pub first : Between R L
  pub rules_are : first.rules ≡ rules
  pub served : IsServed has_kdc rules opening passes workers first.workers history first.table
  pub more : List DeskRun
  pub follow : InTurn (IsNextDesk has_kdc options) first more now

-- and this is the table that its last desk left
abbrev pub RunsTo : {R L : Type 0} → Bool → ServeOptions → Held → List PassView → Rules → List (ServiceWorker R L) → Held
    → Type 0
RunsTo {R} {L} has_kdc options opening passes rules workers table =
    (last : Between R L) × IsRun has_kdc options opening passes rules workers last × (last.table ≡ table)

-- such a run has legal histories, each of which goes on from the one before it (`IsServiceRun`)
abbrev pub RunsAreServiceRuns : Type 0 → Type 0 → Type 0
RunsAreServiceRuns R L = (has_kdc : Bool) (options : ServeOptions) (opening : Held) (passes : List PassView) (rules : Rules)
    (workers : List (ServiceWorker R L)) (now : Between R L) → IsRun has_kdc options opening passes rules workers now
    → IsServiceRun opening.state now.table
