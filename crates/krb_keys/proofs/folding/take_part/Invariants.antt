use Rattle.std.proofs.Common.{◌≡◌, ℕ, ◌+◌, ◌<◌, length, get_or}
use Rattle.krb_keys.specs.Nfold.{joined}
use Rattle.krb_keys.proofs.folding.take_part.Given as goal

abbrev pub invariant-loop-k : goal.invariant-loop-k
invariant-loop-k l =
    (j : ℕ) → j < l.k → get_or l.part j 0 ≡ get_or (joined l.input (length l.initial.part)) (l.start + j) 0
