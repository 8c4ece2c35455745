use Rattle.std.proofs.Common.{◌≡◌, ◌++◌, length}
use Rattle.chpw_warnings.specs.Lines.{file_lines}
use Rattle.chpw_warnings.proofs.telling.put_file_warnings.Given as goal

-- the lines of the rest come behind those so far
abbrev pub invariant-loop-others : goal.invariant-loop-others
invariant-loop-others l =
    l.text.items ++ file_lines l.file l.others ≡ l.initial.text.items ++ file_lines l.file l.warnings

abbrev pub decreases-loop-others : goal.decreases-loop-others
decreases-loop-others l = length l.others
