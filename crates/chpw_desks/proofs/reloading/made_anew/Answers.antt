use Rattle.std.proofs.lemmas.Result.{IfOk-weaker}
use Rattle.chpw_desks.proofs.ServiceRunLemmas.{reload_goes_on}
use Rattle.chpw_desks.proofs.reloading.made_anew.Goals as goal

pub returns-clause-goes_on : goal.returns-clause-goes_on
returns-clause-goes_on c =
    let prepared = c.into_renewal.ensures.prepared in
    IfOk-weaker c.finish.result _ _
    (λ next reloaded. reload_goes_on prepared.0 prepared.1 _ c.into_renewal.result c.args.closed next prepared.2 reloaded)
    c.finish.ensures.reloaded
