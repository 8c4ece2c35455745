use Rattle.chpw_log.proofs.MomentLemmas.{moment_told}
use Rattle.chpw_log.proofs.laws.moments.Goals as goal

pub returns : goal.returns
returns c = record { tells = moment_told c.args.moment c.requires.range }
