use Rattle.std.proofs.Common.{refl}
use Rattle.chpw_service.proofs.StatusLemmas.{status_answer}
use Rattle.chpw_service.proofs.kdc.SocketKdcStatusReporter.status.Goals as goal

-- the readings are of this service, and of the dialog that was given
pub returns-clause-told : goal.returns-clause-told
returns-clause-told g c = status_answer _ _ _ _ _ _ _ _ _ refl refl c.readings_of.ensures.read c.answer_of.ensures.value
