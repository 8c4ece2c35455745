use Rattle.std.proofs.Common.{◌≡◌, ◌++◌, drop}
use Rattle.chpw_import.specs.KdcLines.{left_lines}
use Rattle.chpw_import.proofs.kdc.telling.told_of.Given as goal

-- the lines so far, and those to come
abbrev pub invariant-loop-left : goal.invariant-loop-left
invariant-loop-left l =
    l.text.items ++ left_lines l.socket (drop l.left-index l.import.left.items) ≡ left_lines l.socket l.fn.import.left.items
