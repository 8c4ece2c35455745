use Rattle.std.proofs.Common.{ℕ, List, ◌++◌, take}
use Rattle.chpw_rules.specs.Prefixes.{AreMatched}
use Rattle.chpw_rules.proofs.pattern.read_bytes.Given as goal

-- the bytes so far are read
abbrev pub invariant-loop-byte : goal.invariant-loop-byte
invariant-loop-byte l =
    (text : List ℕ) → AreMatched l.pattern text l.fn.matched
    → AreMatched l.pattern (text ++ take l.byte-index l.bytes) l.matched
