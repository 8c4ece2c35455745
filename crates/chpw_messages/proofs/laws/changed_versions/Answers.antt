use Rattle.chpw_messages.proofs.ChangedVersionLemmas.{flipped_sets_are_bad_data, flipped_sets_change_no_key, sets_are_targeted}
use Rattle.chpw_messages.proofs.laws.changed_versions.Goals as goal

pub returns : goal.returns
returns c = record { targets = sets_are_targeted; keys = flipped_sets_change_no_key; same = flipped_sets_are_bad_data }
