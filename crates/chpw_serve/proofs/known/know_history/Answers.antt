use Rattle.std.proofs.Common.{subst, ◌≤◌}
use Rattle.chpw_table.specs.Agreement.{Held}
use Rattle.chpw_serve.proofs.ServedAloneLemmas.{at_most}
use Rattle.chpw_serve.proofs.known.know_history.Goals as goal

pub returns : goal.returns
returns g c = record {
  kept = c.table.ensures.kept;
  short = subst (λ (t : Held). t.events ≤ t.max_entries) c.table.ensures.value (at_most
      c.is_full.result c.table.result.now.events c.table.result.now.max_entries c.is_full.ensures.value);
}
