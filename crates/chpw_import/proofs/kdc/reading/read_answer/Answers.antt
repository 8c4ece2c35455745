-- What is read is as much of the answer as the limit allows.
use Rattle.chpw_import.proofs.KdcImportLemmas.{taken}
use Rattle.chpw_import.proofs.kdc.reading.read_answer.Goals as goal

pub returns-in-Ok-clause-value : goal.returns-in-Ok-clause-value
returns-in-Ok-clause-value g c =
    rw (← c.take.ensures.limit, ← c.take.ensures.inner)
    (taken (g.A.Read.remaining c.take.result.inner) c.take.result.limit _ _ c.new-bytes.ensures.items c.in-Ok.ensures.bytes)
