use Rattle.std.proofs.Common.{◌≡◌, ◌++◌, length, map}
use Rattle.std.specs.List.{join_with_byte}
use Rattle.hex.specs.Hex.{encode_lower}
use Rattle.chpw_kdc.specs.Lines.{name_text}
use Rattle.chpw_kdc.proofs.fields.put_name.Given as goal

abbrev pub invariant-loop-parts : goal.invariant-loop-parts
invariant-loop-parts l = l.line.items ++ join_with_byte 47 (map encode_lower l.parts) ≡ l.fn.line.items ++ name_text l.name.parts

abbrev pub decreases-loop-parts : goal.decreases-loop-parts
decreases-loop-parts l = length l.parts
