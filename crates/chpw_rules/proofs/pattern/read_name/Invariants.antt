use Rattle.std.proofs.Common.{ℕ, List, ◌++◌, take}
use Rattle.std.specs.List.{join_with_byte}
use Rattle.chpw_rules.specs.Prefixes.{AreMatched}
use Rattle.chpw_rules.proofs.pattern.read_name.Given as goal

-- the components so far are read, with `/` between them
abbrev pub invariant-loop-place : goal.invariant-loop-place
invariant-loop-place l =
    (text : List ℕ) → AreMatched l.pattern text l.fn.matched
    → AreMatched l.pattern (text ++ join_with_byte 47 (take l.place l.parts)) l.matched
