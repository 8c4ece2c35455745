use Rattle.std.proofs.Common.{◌≡◌, ◌++◌, length, map}
use Rattle.std.specs.List.{join_with_byte}
use Rattle.chpw_printing.specs.Quoting.{are_graphic, quoted, name_text}
use Rattle.chpw_printing.proofs.quoting.put_name.Given as goal

abbrev pub invariant-loop-parts : goal.invariant-loop-parts
invariant-loop-parts l = record {
  value : l.text.items ++ join_with_byte 47 (map quoted l.parts) ≡ l.fn.text.items ++ name_text l.name;
  graphic : are_graphic (name_text l.name) ≡ are_graphic (join_with_byte 47 (map quoted l.parts));
}

abbrev pub decreases-loop-parts : goal.decreases-loop-parts
decreases-loop-parts l = length l.parts
