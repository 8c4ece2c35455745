use Rattle.std.proofs.Common.{◌≡◌, ◌++◌, length, map}
use Rattle.chpw_control.specs.Answers.{lines_text}
use Rattle.chpw_orders.specs.Answers.{warning_line}
use Rattle.chpw_orders.proofs.answers.put_warnings.Given as goal

-- the lines of the rest come behind those so far
abbrev pub invariant-loop-others : goal.invariant-loop-others
invariant-loop-others l =
    l.text.items ++ lines_text (map warning_line l.others) ≡ l.initial.text.items ++ lines_text (map warning_line l.warnings)

abbrev pub decreases-loop-others : goal.decreases-loop-others
decreases-loop-others l = length l.others
