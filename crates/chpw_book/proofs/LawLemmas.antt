-- What the laws of changes go by.
use Rattle.chpw_snapshots.proofs.RiseLemmas.{no_older, no_lower}
use Rattle.chpw_book.proofs.ChangeLemmas.{accepted_on, changes_counted, beginnings}
use Rattle.chpw_book.proofs.KeptLemmas.{kept_list, names_known}
use Rattle.chpw_book.proofs.RiseLemmas.{versions_rise}
use Rattle.chpw_book.proofs.ShownLemmas.{histories_shown, lookups_of_histories}

pub ruleset change_laws = (
  accepted_on,
  changes_counted,
  beginnings,
  kept_list,
  names_known,
  versions_rise,
  no_older,
  no_lower,
  histories_shown,
  lookups_of_histories,
)
