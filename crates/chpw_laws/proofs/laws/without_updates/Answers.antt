use Rattle.chpw_laws.proofs.WithoutLemmas.{only_changes_bring_keys, compared_until_depth_of_changes, refused_until_depth_of_changes}
use Rattle.chpw_laws.proofs.WithoutLemmas.{compared_no_longer_than_changes, depth_changes_between, only_changes_bring_keys_in_runs}
use Rattle.chpw_laws.proofs.laws.without_updates.Goals as goal

pub returns : goal.returns
returns c = record {
  only = only_changes_bring_keys;
  until = compared_until_depth_of_changes;
  refused = refused_until_depth_of_changes;
  no_longer = compared_no_longer_than_changes;
  between = depth_changes_between;
  restarts = only_changes_bring_keys_in_runs;
}
