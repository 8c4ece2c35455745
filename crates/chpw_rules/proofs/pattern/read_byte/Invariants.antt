use Rattle.std.proofs.Common.{◌≡◌, ℕ, ◌≤◌, ◌<◌, List, [], ◌∷◌, ◌++◌, take, get_or, false}
use Rattle.std.specs.Bool.{Decides}
use Rattle.chpw_rules.specs.Patterns.{Matches}
use Rattle.chpw_rules.specs.Prefixes.{AreMatched}
use Rattle.chpw_rules.proofs.pattern.read_byte.Given as goal

-- the prefixes so far are matched with the longer text, those to come with the shorter one
abbrev pub invariant-loop-k : goal.invariant-loop-k
invariant-loop-k l = record {
  done : (text : List ℕ) → AreMatched l.pattern text l.fn.matched
      → (n : ℕ) → n ≤ l.k → Decides (get_or l.matched n false) (Matches (take n l.pattern) (text ++ l.byte ∷ []));
  kept : l.before ≡ get_or l.fn.matched l.k false;
  others : (n : ℕ) → l.k < n → get_or l.matched n false ≡ get_or l.fn.matched n false;
}
