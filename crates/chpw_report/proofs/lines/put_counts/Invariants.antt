use Rattle.std.proofs.Common.{◌≡◌, ◌++◌, length}
use Rattle.std.specs.List.{flat_map}
use Rattle.chpw_printing.specs.Quoting.{number_text}
use Rattle.chpw_report.proofs.lines.put_counts.Given as goal

abbrev pub invariant-loop-others : goal.invariant-loop-others
invariant-loop-others l = l.text.items ++ flat_map number_text l.others ≡ l.fn.text.items ++ flat_map number_text l.counts

abbrev pub decreases-loop-others : goal.decreases-loop-others
decreases-loop-others l = length l.others
