use Rattle.std.proofs.Common.{◌≡◌, take}
use Rattle.chpw_table.proofs.table.resuming.copied_ids.Given as goal

abbrev pub invariant-loop-place : goal.invariant-loop-place
invariant-loop-place l = l.ids.items ≡ take l.place l.used
