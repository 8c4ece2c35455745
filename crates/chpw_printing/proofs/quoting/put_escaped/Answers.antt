use Rattle.std.proofs.Common.{◌<◌, rules}
use Rattle.chpw_printing.proofs.QuotingLemmas.{escaped_graphic}
use Rattle.chpw_printing.proofs.quoting.put_escaped.Goals as goal

pub returns-in_err-extend_from_slice-clause-graphic : goal.returns-in_err-extend_from_slice-clause-graphic
returns-in_err-extend_from_slice-clause-graphic c =
    let small : c.args.byte < 256 = search rules in escaped_graphic c.args.byte small

pub returns-clause-graphic : goal.returns-clause-graphic
returns-clause-graphic c = let small : c.args.byte < 256 = search rules in escaped_graphic c.args.byte small
