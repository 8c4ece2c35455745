-- No name is listed twice, and each row is within the limits.
use Rattle.std.proofs.Common.{◌≡◌}
use Rattle.chpw_import.specs.KdcChoices.{chosen_from, choice_of, nothing}
use Rattle.chpw_import.proofs.KdcLemmas.{chosen_fit}
use Rattle.chpw_import.proofs.kdc.command.imported.Goals as goal

pub returns-in-Ok-clause-fits : goal.returns-in-Ok-clause-fits
returns-in-Ok-clause-fits c =
    let chosen : choice_of c.in-Ok.import ≡ chosen_from c.args.patterns.now c.args.options.iterations nothing c.in_ok-listed.listed.items
    = rw c.as_slice.ensures.value at c.in-Ok.ensures.value in
    chosen_fit c.args.patterns.now c.args.options.iterations c.in_ok-listed.listed.items (choice_of c.in-Ok.import)
    c.args.options.some_count.0 c.args.options.some_count.1 c.in_ok-listed.ensures.distinct chosen
