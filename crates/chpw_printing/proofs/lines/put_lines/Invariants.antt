use Rattle.std.proofs.Common.{◌≡◌, ◌++◌, length}
use Rattle.chpw_printing.specs.Lines.{are_lines, lines_text}
use Rattle.chpw_printing.proofs.lines.put_lines.Given as goal

abbrev pub invariant-loop-others : goal.invariant-loop-others
invariant-loop-others l = record {
  value : l.text.items ++ lines_text l.others ≡ l.fn.text.items ++ lines_text l.lines;
  printed : are_lines (lines_text l.lines) ≡ are_lines (lines_text l.others);
}

abbrev pub decreases-loop-others : goal.decreases-loop-others
decreases-loop-others l = length l.others
