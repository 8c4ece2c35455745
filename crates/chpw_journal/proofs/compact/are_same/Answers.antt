use Rattle.std.proofs.lemmas.Bool.Decides.{same_from_decides}
use Rattle.chpw_journal.specs.Compact.{are_same_keys}
use Rattle.chpw_journal.proofs.CompactLemmas.{are_same_keys-Decides}
use Rattle.chpw_journal.proofs.compact.are_same.Goals as goal

pub returns : goal.returns
returns c = record {
  value = same_from_decides c.are_same_keys.result (are_same_keys c.args.keys.now c.args.others.now)
      (c.are_same_keys.ensures.value.0, c.are_same_keys.ensures.value.1)
      (are_same_keys-Decides c.args.keys.now c.args.others.now);
}
