use Rattle.std.proofs.Common.{All, take}
use Rattle.chpw_endings.specs.Overlaps.{Takes}
use Rattle.chpw_endings.proofs.overlaps.taken_by.Given as goal

abbrev pub invariant-loop-other : goal.invariant-loop-other
invariant-loop-other l = All (λ other. ¬ (Takes l.wildcard other)) (take l.other-index l.addresses)
