-- The whole run of a service, put together from its parts.
use Rattle.std.proofs.Common.{◌≡◌, ℕ, Bool, List, Option, is_some, length, subst}
use Rattle.chpw_rules.specs.declared.config.Config.{Config}
use Rattle.chpw_table.specs.Agreement.{Held}
use Rattle.chpw_table.specs.declared.times.Moment.{Moment}
use Rattle.rand_chacha.specs.ChaCha.{key_of}
use Rattle.chpw_book.specs.Passes.{PassView}
use Rattle.chpw_workers.specs.Clocks.{moment_after}
use Rattle.chpw_invocation.specs.declared.invocation.ServeOptions.{ServeOptions}
use Rattle.chpw_start.specs.Raised.{IsRaisedWhereAsked}
use Rattle.chpw_desks.specs.ServiceRuns.{RunsTo, gives_moment, new_passes}
use Rattle.chpw_start.specs.Rules.{AreRulesOf}
use Rattle.chpw_desks.specs.Staff.{AreStaff, ServiceWorker}
use Rattle.chpw_service.specs.WholeRuns.{IsOpenedFrom, IsServedByNewWorkers, IsServedFrom, IsWholeRun}
use Rattle.chpw_start.specs.declared.raising.RaiseReport.{RaiseReport}
use Rattle.chpw_start.specs.declared.rules.Rules.{Rules}

module _ {R L : Type 0} (options : ServeOptions) (key : List ℕ) (rules : Rules) where
  -- workers that are new serve
  pub by_new_workers : (has_kdc : Bool) (count : ℕ) (opening : Held) (passes : List PassView)
      (workers : List (ServiceWorker R L)) → AreStaff key 0 workers → length workers ≡ count
      → (table : Held) × RunsTo has_kdc options opening passes rules workers table
      → IsServedByNewWorkers R L has_kdc options key count opening passes rules
  by_new_workers has_kdc count opening passes workers new counted run =
      record { workers = workers; are_new = new; counted = counted; left = run.0; run = run.1 }

  -- they serve with what the service starts with
  pub served_from : (has_kdc : Bool) (used : ServeOptions) (count : ℕ) (opening table : Held) (passes olds : List PassView)
      (before after : Moment) (told : Option RaiseReport) → has_kdc ≡ is_some options.kdc → used ≡ options → count ≡ options.workers
      → table ≡ opening → olds ≡ new_passes options.workers
      → IsRaisedWhereAsked gives_moment table.state before after olds passes options.raise told
      → IsServedByNewWorkers R L has_kdc used key count table passes rules
      → IsServedFrom R L options key opening rules before
  served_from has_kdc used count opening table passes olds before after told kdc uses counts tables old raised served =
      let by_kdc = subst (λ (b : Bool). IsServedByNewWorkers R L b used key count table passes rules) kdc served in
      let by_options = subst (λ (o : ServeOptions). IsServedByNewWorkers R L (is_some options.kdc) o key count table passes rules) uses by_kdc in
      let by_count = subst (λ (n : ℕ). IsServedByNewWorkers R L (is_some options.kdc) options key n table passes rules) counts by_options in
      record {
        after = after;
        passes = passes;
        told = told;
        raised = subst (λ (t : Held). IsRaisedWhereAsked gives_moment t.state before after (new_passes options.workers) passes options.raise told) tables
            (subst (λ (ps : List PassView). IsRaisedWhereAsked gives_moment table.state before after ps passes options.raise told) old raised);
        served = subst (λ (t : Held). IsServedByNewWorkers R L (is_some options.kdc) options key options.workers t passes rules) tables by_count;
      }

-- and that is what its files say
pub whole_run : {R L : Type 0} (options : ServeOptions) (config : Config) (rules : Rules) (before since : Moment) (opened : Held)
    (seed : List ℕ) (table : Held) → AreRulesOf config options rules → before ≡ moment_after 0 → IsOpenedFrom config before opened
    → table ≡ opened → IsServedFrom R L options (key_of seed) table rules since → IsWholeRun R L options
whole_run {R} {L} options config rules before since opened seed table are first opening tables served =
    record {
      config = config;
      rules = rules;
      rules_are = are;
      opened = opened;
      opening = subst (λ (m : Moment). IsOpenedFrom config m opened) first opening;
      seed = seed;
      since = since;
      served = subst (λ (t : Held). IsServedFrom R L options (key_of seed) t rules since) tables served;
    }
