use Rattle.std.proofs.Common.{sym, subst}
use Rattle.chpw_table.specs.Agreement.{Held}
use Rattle.chpw_reload.specs.ReloadRuns.{GoesOn}
use Rattle.chpw_desks.specs.Following.{TakesRules}
use Rattle.chpw_desks.proofs.ServiceRunLemmas.{takes_new}
use Rattle.chpw_desks.proofs.reloading.reload.Goals as goal

pub returns-in-Ok-clause-goes_on : goal.returns-in-Ok-clause-goes_on
returns-in-Ok-clause-goes_on g c =
    subst (λ (t : Held). GoesOn c.args.table.state t.state) (sym c.of.ensures.table) c.in-Ok.ensures.goes_on

pub returns-in-Ok-clause-rules : goal.returns-in-Ok-clause-rules
returns-in-Ok-clause-rules g c =
    subst (λ (t : Held). TakesRules c.args.anew c.args.table c.args.rules.now c.args.anew.rules t) (sym c.of.ensures.table)
    (takes_new c.args.anew c.args.table c.args.rules.now c.in-Ok.field-0 c.in-Ok.ensures.reloaded)
