use Rattle.std.proofs.Common.{◌≡◌, ◌++◌}
use Rattle.chpw_kdc.specs.Answering.{lacked_in}
use Rattle.chpw_kdc.proofs.dialog.KdcDialog.lacked.Given as goal

-- what the rest lacks comes after the names so far
abbrev pub invariant-loop-name : goal.invariant-loop-name
invariant-loop-name l =
    (goal.iterator-loop-name).can_next l.name-iterator ×
    (goal.iterator-loop-name).is_finite l.name-iterator ×
    (l.lacked.items ++ lacked_in l.self-inside.listed.keys l.name-iterator ≡ lacked_in l.self-inside.listed.keys l.self-inside.mirror.entries)
