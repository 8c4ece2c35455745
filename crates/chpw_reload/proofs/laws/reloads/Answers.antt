use Rattle.chpw_reload.proofs.ReloadLemmas.{keys_stay, keys_are_given, reloads_are_sound}
use Rattle.chpw_reload.proofs.laws.reloads.Goals as goal

pub returns-clause-keys : goal.returns-clause-keys
returns-clause-keys c = keys_stay

pub returns-clause-given : goal.returns-clause-given
returns-clause-given c = keys_are_given

pub returns-clause-sound : goal.returns-clause-sound
returns-clause-sound c = reloads_are_sound
