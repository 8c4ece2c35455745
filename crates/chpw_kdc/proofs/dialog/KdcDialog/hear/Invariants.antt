use Rattle.std.proofs.Common.{length}
use Rattle.chpw_kdc.proofs.HearingLemmas.{HeardUpTo}
use Rattle.chpw_kdc.proofs.dialog.KdcDialog.hear.Given as goal

-- all but the rest was heard
abbrev pub invariant-loop-rest : goal.invariant-loop-rest
invariant-loop-rest g l = HeardUpTo (g.O.IsOurs.ours l.ours) l.now l.fn.self l.bytes l.rest l.self

abbrev pub decreases-loop-rest : goal.decreases-loop-rest
decreases-loop-rest g l = length l.rest
