use Rattle.std.proofs.Common.{◌≡◌, ◌++◌, List, ℕ, length}
use Rattle.std.specs.List.{flat_map}
use Rattle.chpw_printing.specs.Quoting.{quoted}
use Rattle.chpw_report.proofs.keys.put_parts.Given as goal

abbrev pub invariant-loop-parts : goal.invariant-loop-parts
invariant-loop-parts l =
    l.text.items ++ quoted (flat_map (λ (part : List ℕ). part) l.parts)
    ≡ l.fn.text.items ++ quoted (flat_map (λ (part : List ℕ). part) l.name.parts)

abbrev pub decreases-loop-parts : goal.decreases-loop-parts
decreases-loop-parts l = length l.parts
