use Rattle.std.proofs.Common.{◌≡◌, length, map}
use Rattle.chpw_kdc.specs.Lines.{parts_from}
use Rattle.chpw_kdc.proofs.NameLemmas.{in_front}
use Rattle.chpw_kdc.proofs.fields.read_parts.Given as goal

-- what the rest spells comes after the parts so far
abbrev pub invariant-loop-rest : goal.invariant-loop-rest
invariant-loop-rest l = in_front l.parts.items (parts_from (map (λ w. w.now) l.rest)) ≡ parts_from (map (λ w. w.now) l.words)

abbrev pub decreases-loop-rest : goal.decreases-loop-rest
decreases-loop-rest l = length l.rest
