use Rattle.std.proofs.Common.{◌≡◌, rules}
use Rattle.chpw_reload.proofs.StartingLemmas.{started_from, refused_over}
use Rattle.chpw_reload.proofs.reloading.start_table.Goals as goal

pub returns-in-Ok-clause-started : goal.returns-in-Ok-clause-started
returns-in-Ok-clause-started g c =
    let realm : c.args.closed.now.state.fixed.realm ≡ c.args.renewal.settings.realm = search rules in
    started_from c.args.renewal (g.F.Read.remaining c.args.rest) c.args.closed.now.state
    c.in-Ok.restored c.start_over.result realm c.in-Ok.ensures.restored c.start_over.ensures.started

pub returns-in-Ok-clause-refused : goal.returns-in-Ok-clause-refused
returns-in-Ok-clause-refused g c =
    let realm : c.args.closed.now.state.fixed.realm ≡ c.args.renewal.settings.realm = search rules in
    refused_over c.args.renewal (g.F.Read.remaining c.args.rest) c.args.closed.now
    c.in-Ok.restored c.start_over.result realm c.in-Ok.ensures.restored c.start_over.ensures.refused
