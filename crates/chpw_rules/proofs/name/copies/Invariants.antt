use Rattle.std.proofs.Common.{◌≡◌, map, take}
use Rattle.chpw_rules.proofs.name.copies.Given as goal

abbrev pub invariant-loop-part : goal.invariant-loop-part
invariant-loop-part l = l.copies.items ≡ map (λ part. part.now) (take l.part-index l.parts)
