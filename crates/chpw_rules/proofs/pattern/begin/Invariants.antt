use Rattle.std.proofs.Common.{ℕ, ◌≤◌, [], take, get_or, false}
use Rattle.std.specs.Bool.{Decides}
use Rattle.chpw_rules.specs.Patterns.{Matches}
use Rattle.chpw_rules.proofs.pattern.begin.Given as goal

-- the prefixes so far
abbrev pub invariant-loop-k : goal.invariant-loop-k
invariant-loop-k l =
    (n : ℕ) → n ≤ l.k → Decides (get_or l.matched n false) (Matches (take n l.pattern) [])
