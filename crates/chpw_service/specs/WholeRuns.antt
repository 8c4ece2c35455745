-- THE WHOLE RUN of a service, from the text of its configuration to the table that its last desk left.
use Rattle.std.specs.Prelude.{◌≡◌, ℕ, Bool, List, Option, is_some, length}
use Rattle.std.specs.declared.fs.File.{File}
use Rattle.rand_chacha.specs.ChaCha.{key_of}
use Rattle.chpw_rules.specs.declared.config.Config.{Config}
use Rattle.chpw_table.specs.Agreement.{Held}
use Rattle.chpw_table.specs.declared.times.Moment.{Moment}
use Rattle.chpw_journal.specs.declared.journal_file.Journal.{Journal}
use Rattle.chpw_book.specs.Passes.{PassView}
use Rattle.chpw_workers.specs.Clocks.{moment_after}
use Rattle.chpw_invocation.specs.declared.invocation.ServeOptions.{ServeOptions}
use Rattle.chpw_start.specs.Opening.{IsOpening}
use Rattle.chpw_start.specs.Resuming.{IsTakenOver}
use Rattle.chpw_table.specs.declared.table.resuming.ResumeState.{ResumeState}
use Rattle.chpw_start.specs.Raised.{IsRaisedWhereAsked}
use Rattle.chpw_desks.specs.ServiceRuns.{RunsTo, gives_moment, new_passes}
use Rattle.chpw_start.specs.Rules.{AreRulesOf}
use Rattle.chpw_desks.specs.Staff.{AreStaff, ServiceWorker}
use Rattle.chpw_start.specs.declared.raising.RaiseReport.{RaiseReport}
use Rattle.chpw_start.specs.declared.rules.Rules.{Rules}

-- as many new workers, with words of this key, serve at one desk after the other, from a first one with this table, these passes
-- and these rules on
pub record IsServedByNewWorkers (R L : Type 0) (has_kdc : Bool) (options : ServeOptions) (key : List ℕ) (count : ℕ)
    (opening : Held) (passes : List PassView) (rules : Rules) : Type 0 where
  pub workers : List (ServiceWorker R L)
  pub are_new : AreStaff key 0 workers
  pub counted : length workers ≡ count
  pub left : Held
  pub run : RunsTo has_kdc options opening passes rules workers left

-- before that the count of iterations is raised at the first desk, if that is asked for
pub record IsServedFrom (R L : Type 0) (options : ServeOptions) (key : List ℕ) (opening : Held)
    (rules : Rules) (before : Moment) : Type 0 where
  pub after : Moment
  pub passes : List PassView
  pub told : Option RaiseReport
  pub raised : IsRaisedWhereAsked gives_moment opening.state before after (new_passes options.workers) passes options.raise told
  pub served : IsServedByNewWorkers R L (is_some options.kdc) options key options.workers opening passes rules

-- a table with which the first desk of a service with this configuration opens: restored from what the journal's file gave, at a
-- moment of a clock, or that table once it has taken over what a resume file left that fits this start
pub record IsOpenedFrom (config : Config) (before : Moment) (opened : Held) : Type 0 where
  pub started : Moment
  pub given : Option (List ℕ)
  pub found : Journal File
  pub opening : IsOpening gives_moment config given before started found
  pub start : Moment
  pub left : Option ResumeState
  pub taken : IsTakenOver start.seconds found.table left opened

-- there is a configuration that a text sets, by whose rules messages are answered; the first desk opens with its table, by a clock
-- that hasn't given a moment yet; and new workers, with words of one seed, serve from there on
pub record IsWholeRun (R L : Type 0) (options : ServeOptions) : Type 0 where
  pub config : Config
  pub rules : Rules
  pub rules_are : AreRulesOf config options rules
  pub opened : Held
  pub opening : IsOpenedFrom config (moment_after 0) opened
  pub seed : List ℕ
  pub since : Moment
  pub served : IsServedFrom R L options (key_of seed) opened rules since
