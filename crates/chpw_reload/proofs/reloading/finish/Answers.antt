use Rattle.chpw_reload.proofs.StartingLemmas.{reloaded_from}
use Rattle.chpw_reload.proofs.reloading.finish.Goals as goal

pub returns-in-Ok-clause-reloaded : goal.returns-in-Ok-clause-reloaded
returns-in-Ok-clause-reloaded g c =
    reloaded_from c.args.renewal (g.F.Read.remaining c.args.rest)
    c.args.closed c.in-Ok.started c.going_on_from.result c.in-Ok.ensures.started c.going_on_from.ensures.value
