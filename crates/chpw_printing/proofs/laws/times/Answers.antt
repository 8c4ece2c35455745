use Rattle.chpw_printing.proofs.TimeLemmas.{time_told}
use Rattle.chpw_printing.proofs.laws.times.Goals as goal

pub returns : goal.returns
returns c = record { tells = time_told c.args.seconds c.args.micros c.requires.seconds }
