-- The whole pattern is one of its prefixes.
use Rattle.std.proofs.Common.{◌≡◌, ◌∙◌, [], take, length, arith}
use Rattle.std.proofs.lemmas.Grind.{common_steps}
use Rattle.std.specs.Bool.{Decides}
use Rattle.std.proofs.lemmas.Bool.Decides.{same_from_decides}
use Rattle.chpw_rules.specs.Patterns.{Matches, spelling}
use Rattle.chpw_rules.proofs.PatternLemmas.{matches-Decides}
use Rattle.chpw_rules.proofs.pattern.NamePattern.matches.Goals as goal

pub returns : goal.returns
returns c =
    let p = c.as_slice-pattern.result.now in
    let whole : take (length p) p ≡ p = grind (arith, common_steps) in
    let known = c.read_name.ensures.value [] c.begin.ensures.value (length p) (omega arith) in
    let parts : c.as_slice.result.now ≡ c.args.name.now.parts = c.as_slice.ensures.value in
    let text : p ≡ c.args.self.now = c.as_slice-pattern.ensures.value ∙ c.self.view_is in
    let value : Decides _ (Matches c.args.self.now (spelling c.args.name.now)) = rw (← text, ← parts) (rw whole at known) in
    record {
      value = value;
      test = same_from_decides _ _ value (matches-Decides c.args.self.now (spelling c.args.name.now));
    }
