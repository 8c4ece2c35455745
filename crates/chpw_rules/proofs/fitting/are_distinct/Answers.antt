-- The element at hand is not among those before, and joins those before.
use Rattle.std.proofs.Common.{◌≡◌, ◌∙◌, sym, false, take}
use Rattle.std.specs.List.{list_any}
use Rattle.chpw_rules.proofs.DistinctLemmas.{none_again_more}
use Rattle.chpw_rules.proofs.fitting.are_distinct.Goals as goal

pub loop-place-preserved : goal.loop-place-preserved
loop-place-preserved g c =
    let new : list_any (g.T.Identified.same c.index-list-place.result) (take c.loop-place.place c.args.list.now) ≡ false
    = sym c.is_in_list.ensures.value ∙ c.if-is_in_list.false in
    c.loop-place.invariant
    ∙ none_again_more g.T.Identified.same c.args.list.now c.loop-place.place c.index-list-place.result c.loop-place-test.true
    ∙ rw (← c.index-list-place.is, new)
