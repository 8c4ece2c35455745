use Rattle.std.proofs.Common.{◌≡◌, map, take}
use Rattle.chpw_import.proofs.entries.copies.Given as goal

abbrev pub invariant-loop-component : goal.invariant-loop-component
invariant-loop-component l = l.parts.items ≡ map (λ c. c.items) (take l.component-index l.components)
