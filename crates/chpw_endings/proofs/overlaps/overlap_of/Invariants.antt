use Rattle.std.proofs.Common.{All, take}
use Rattle.chpw_endings.specs.Overlaps.{Takes}
use Rattle.chpw_endings.proofs.overlaps.overlap_of.Given as goal

abbrev pub invariant-loop-wildcard : goal.invariant-loop-wildcard
invariant-loop-wildcard l = All (λ a. All (λ b. ¬ (Takes a b)) l.addresses) (take l.wildcard-index l.addresses)
