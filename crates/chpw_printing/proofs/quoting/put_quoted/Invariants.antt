use Rattle.std.proofs.Common.{◌≡◌, ◌++◌, length}
use Rattle.chpw_printing.specs.Quoting.{are_graphic, quoted}
use Rattle.chpw_printing.proofs.quoting.put_quoted.Given as goal

abbrev pub invariant-loop-others : goal.invariant-loop-others
invariant-loop-others l = record {
  value : l.text.items ++ quoted l.others ≡ l.fn.text.items ++ quoted l.bytes;
  graphic : are_graphic (quoted l.bytes) ≡ are_graphic (quoted l.others);
}

abbrev pub decreases-loop-others : goal.decreases-loop-others
decreases-loop-others l = length l.others
