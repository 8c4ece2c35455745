use Rattle.std.proofs.Common.{◌≡◌, drop}
use Rattle.chpw_import.specs.KdcChoices.{chosen_from, choice_of, nothing}
use Rattle.chpw_import.proofs.kdc.choosing.chosen.Given as goal

-- the principals to come decide
abbrev pub invariant-loop-principal : goal.invariant-loop-principal
invariant-loop-principal l =
    chosen_from l.patterns l.iterations nothing l.fn.listed
    ≡ chosen_from l.patterns l.iterations (choice_of l.import) (drop l.principal-index l.listed)
