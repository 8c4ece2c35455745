use Rattle.std.proofs.Common.{◌≡◌, ◌∙◌, true}
use Rattle.std.proofs.lemmas.Result.{IfOk-weaker}
use Rattle.chpw_start.proofs.starting.open_table.Goals as goal

pub returns-in-Ok-clause-existing : goal.returns-in-Ok-clause-existing
returns-in-Ok-clause-existing g c = λ must.
    IfOk-weaker c.table_from.result (λ j. j.found ≡ c.in-Ok.file.found) (λ j. j.found ≡ true)
    (λ j h. h ∙ c.in-Ok.ensures.existing must) c.table_from.ensures.found
