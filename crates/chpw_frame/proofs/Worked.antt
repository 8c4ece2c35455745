-- Messages and streams, worked out.
use Rattle.std.proofs.Common.{refl}
use Rattle.chpw_frame.specs.Laws.{WorkedRows}

pub worked_rows : WorkedRows
worked_rows = (refl, refl, refl, refl, refl, refl, refl, refl, refl, refl, refl, refl, refl, refl, refl, refl)
