use Rattle.std.proofs.Common.{inr, refl, sym, ◌∙◌}
use Rattle.chpw_kdc.proofs.dialog.KdcDialog.list.Goals as goal

pub returns-then-contains-clause-fault : goal.returns-then-contains-clause-fault
returns-then-contains-clause-fault c = rw (← c.self.view_is) (inr (refl, sym c.contains.ensures ∙ c.if-contains.true))
