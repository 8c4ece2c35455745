use Rattle.std.proofs.Common.{◌≡◌, take}
use Rattle.chpw_desks.specs.Tallies.{password_changes}
use Rattle.chpw_desks.proofs.closing.changes.Given as goal

abbrev pub invariant-loop-entry : goal.invariant-loop-entry
invariant-loop-entry l = l.count ≡ password_changes (take l.entry-index l.history)
