-- What is made is what the definition says.
use Rattle.std.proofs.Common.{◌≡◌, ◌∷◌, []}
use Rattle.std.proofs.lemmas.Grind.{common_steps}
use Rattle.std.proofs.Common.{arith}
use Rattle.chpw_rules.specs.Patterns.{star}
use Rattle.chpw_rules.proofs.PatternLemmas.{one_component}
use Rattle.chpw_rules.proofs.pattern.NamePatterns.of_one_component.Goals as goal

pub returns-clause-ours : goal.returns-clause-ours
returns-clause-ours c = λ name.
    let text : c.of.result ≡ star ∷ [] = grind (arith, common_steps) in
    let include : c.of-2.result ≡ (star ∷ []) ∷ [] = grind (arith, common_steps) in
    let exclude : c.of-3.result ≡ [] = grind (arith, common_steps) in
    rw (include, exclude) (one_component name)
