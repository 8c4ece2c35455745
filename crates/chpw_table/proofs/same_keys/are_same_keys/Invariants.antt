use Rattle.std.proofs.Common.{◌≡◌, take}
use Rattle.chpw_table.proofs.same_keys.are_same_keys.Given as goal

abbrev pub invariant-loop-place : goal.invariant-loop-place
invariant-loop-place l = take l.place l.keys ≡ take l.place l.others
