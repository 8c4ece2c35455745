-- How a service ends.
use Rattle.std.proofs.Common.{Result, Ok, Err, IfErr, OnOk}

-- what holds where the desks ended without a fault holds where the service does: after a fault of theirs it has one too
pub well_ended : {T E U F : Type 0} (X : Type 0) (ended : Result T E) (result : Result U F) → OnOk ended X → IfErr ended (λ late. OnOk result ⊥) → OnOk result X
well_ended X (Ok left) (Ok done) holds late = holds
well_ended X (Ok left) (Err fault) holds late = tt
well_ended X (Err why) (Ok done) holds late = absurd late
well_ended X (Err why) (Err fault) holds late = tt
