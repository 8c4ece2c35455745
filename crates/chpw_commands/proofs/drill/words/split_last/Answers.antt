use Rattle.chpw_commands.proofs.SplitLemmas.{rsplit_gives}
use Rattle.chpw_commands.proofs.drill.words.split_last.Goals as goal

pub returns : goal.returns
returns c = record {
  value = rsplit_gives c.args.mark c.args.word.now c.rsplit_once.result c.rsplit_once.ensures.cases c.requires;
}
