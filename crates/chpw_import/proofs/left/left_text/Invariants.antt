use Rattle.std.proofs.Common.{◌≡◌, ◌++◌, length}
use Rattle.chpw_import.specs.LeftLines.{left_lines}
use Rattle.chpw_import.proofs.left.left_text.Given as goal

abbrev pub invariant-loop-left : goal.invariant-loop-left
invariant-loop-left l =
    let es = l.brought.entries.items in
    l.text.items ++ left_lines l.file es l.left ≡ left_lines l.file es l.brought.left.items

abbrev pub decreases-loop-left : goal.decreases-loop-left
decreases-loop-left l = length l.left
