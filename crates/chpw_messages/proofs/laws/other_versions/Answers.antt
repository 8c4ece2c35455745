use Rattle.chpw_messages.proofs.VersionLemmas.{others_add_nothing}
use Rattle.chpw_messages.proofs.laws.other_versions.Goals as goal

pub returns : goal.returns
returns g c = record { adds = λ decider receipts. others_add_nothing _ }
