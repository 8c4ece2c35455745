-- The test decides.
use Rattle.chpw_rules.proofs.PatternLemmas.{is_ours-Decides}
use Rattle.chpw_rules.proofs.pattern.NamePatterns.is_ours.Goals as goal

pub returns-then-any_matches-clause-means : goal.returns-then-any_matches-clause-means
returns-then-any_matches-clause-means c = is_ours-Decides c.args.self.now c.args.name.now

pub returns-else-any_matches-clause-means : goal.returns-else-any_matches-clause-means
returns-else-any_matches-clause-means c = is_ours-Decides c.args.self.now c.args.name.now
