use Rattle.std.proofs.Common.{◌≡◌, true, ◌∙◌, ap, subst, rules}
use Rattle.chpw_rules.specs.declared.config.Config.{Config}
use Rattle.chpw_rules.specs.Fitting.{config_fits}
use Rattle.chpw_table.specs.Agreement.{Agrees}
use Rattle.chpw_table.specs.State.{opening_of}
use Rattle.chpw_reload.specs.Next.{next_config}
use Rattle.chpw_reload.proofs.reloading.start_next.Goals as goal

pub returns-clause-started : goal.returns-clause-started
returns-clause-started c =
    let closed = c.args.closed.now.state in
    let same : c.in-Some.config ≡ next_config c.args.settings closed c.args.renewed.now.state = c.in-Some.ensures.fits.0 ∙ c.in_ok-config.ensures.value in
    let opening : Agrees c.in_ok-table.table.state (opening_of c.in-Some.config closed.fixed.quiet_until) = search rules in
    let counts = c.in_ok-table.ensures.counts in
    record {
      keys = c.requires.alike;
      fits = subst (λ (config : Config). config_fits config ≡ true) same c.in-Some.ensures.fits.1;
      table = subst (λ (config : Config). Agrees c.in_ok-table.table.state (opening_of config closed.fixed.quiet_until)) same opening;
      counts = (counts.0, counts.1, counts.2 ∙ ap (λ (config : Config). config.max_entries) same);
      lacked = c.in_ok-lacked.ensures.value;
      few = c.requires.few;
    }
