use Rattle.std.proofs.Common.{◌≢◌, ℕ, ◌*◌, ◌%◌, ◌<◌, ◌≤◌}
use Rattle.krb_keys.proofs.folding.copy_count.Given as goal

abbrev pub invariant-loop-count : goal.invariant-loop-count
invariant-loop-count l = (j : ℕ) → 1 ≤ j → j < l.count → j * l.len % l.part_len ≢ 0
