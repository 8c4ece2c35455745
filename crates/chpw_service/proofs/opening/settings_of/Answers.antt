use Rattle.std.proofs.Common.{inl}
use Rattle.chpw_service.proofs.opening.settings_of.Goals as goal

-- memory may be refused for the rules
pub returns-clause-fault : goal.returns-clause-fault
returns-clause-fault g c = inl (inl tt)
