use Rattle.std.proofs.Common.{Some, subst}
use Rattle.chpw_start.specs.Resuming.{IsFound}
use Rattle.chpw_start.specs.declared.resuming.Found.{Found}
use Rattle.chpw_start.proofs.resuming.take_over.Goals as goal

pub returns-in-Ok-clause-taken : goal.returns-in-Ok-clause-taken
returns-in-Ok-clause-taken g c =
    let fits = subst (λ (found : Found). IsFound c.args.table.state.fixed.realm c.args.start.seconds found) c.in-Fit.is c.requires.found in (
      Some c.in-Fit.carried,
      (
        fits.0,
        record {
          agrees = c.in-Ok.ensures.resumed;
          counts = c.in-Ok.ensures.counts;
        },
      ),
    )
