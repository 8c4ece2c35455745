use Rattle.std.proofs.Common.{◌≡◌, [], ◌∷◌, ◌++◌, sym, ◌∙◌, ap, subst}
use Rattle.chpw_table.specs.Holding.{HoldsIds}
use Rattle.chpw_table.specs.Entering.{held_after}
use Rattle.chpw_table.proofs.ResumingLemmas.{holds_none, holds_more}
use Rattle.chpw_table.proofs.table.resuming.tree_of.Goals as goal

pub loop-id-init : goal.loop-id-init
loop-id-init c = subst (HoldsIds _ []) (sym c.new-used.ensures.empty) (holds_none _)

pub loop-id-preserved : goal.loop-id-preserved
loop-id-preserved c =
    subst (HoldsIds _ (c.loop-id.yielded ++ c.in-Some.id ∷ []))
    (sym (c.put_ids.ensures.value ∙ ap (held_after _ c.loop-id.used) c.in_ok-of.ensures.value))
    (holds_more _ c.loop-id.yielded c.loop-id.used c.in-Some.id c.loop-id.invariant)
