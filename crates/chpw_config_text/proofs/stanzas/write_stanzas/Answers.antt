-- The table of the stanzas is read back.
use Rattle.std.proofs.Common.{◌≡◌, ◌≤◌, ◌∙◌, ap, Some}
use Rattle.toml.specs.Data.{members_depth}
use Rattle.toml.specs.View.{table_view}
use Rattle.chpw_config_text.proofs.DepthLemmas.{stanzas_depth}
use Rattle.chpw_config_text.proofs.stanzas.write_stanzas.Goals as goal

pub returns-in-Ok-clause-reads : goal.returns-in-Ok-clause-reads
returns-in-Ok-clause-reads c =
    let made = c.in_ok-stanzas.ensures in
    let shallow : members_depth (table_view c.in_ok-stanzas.stanzas) ≤ 80 = rw made.value (stanzas_depth c.args.service.now c.args.principals.now) in
    c.in-Ok.ensures.reads_back shallow ∙ ap Some made.value
