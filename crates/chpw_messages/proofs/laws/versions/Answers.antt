use Rattle.chpw_messages.proofs.VersionLemmas.{all_stay, its_own_stay, messages_open_once_under, others_are_refused, requests_are_of_it}
use Rattle.chpw_messages.proofs.laws.versions.Goals as goal

pub returns : goal.returns
returns c = record {
  refused = others_are_refused;
  requests = requests_are_of_it;
  own = its_own_stay;
  both = all_stay;
  once = messages_open_once_under;
}
