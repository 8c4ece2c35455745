use Rattle.std.proofs.Common.{◌≡◌, ◌≤◌, [], ◌∷◌, ◌++◌, Some, None, length, sym, ◌∙◌, ap, rules}
use Rattle.std.specs.Prelude.{slice_get}
use Rattle.chpw_table.proofs.ResumingLemmas.{take_more, take_whole, none_past}
use Rattle.chpw_table.proofs.table.resuming.copied_ids.Goals as goal
use Rattle.chpw_table.proofs.table.resuming.copied_ids.Goals.{else-loop-place-test, then-loop-place-test+in-None}

pub loop-place-preserved : goal.loop-place-preserved
loop-place-preserved c =
    let got : slice_get c.args.used.now c.loop-place.place ≡ Some c.in-Some.id.now = search rules in
    c.in_ok-push-in-Some.ensures.items ∙ (ap (λ x. c.loop-place.ids.items ++ x ∷ []) c.in_ok-clone-in-Some.ensures.value
    ∙ take_more c.args.used.now c.loop-place.place c.in-Some.id.now c.loop-place.ids.items got c.loop-place.invariant)

pub returns : goal.returns
returns c =
    let past : length c.args.used.now ≤ c.loop-place.place = elim c.loop-place-test.branch [
      | else-loop-place-test w ↦ search rules
      | then-loop-place-test+in-None w ↦ none_past c.args.used.now c.loop-place.place (search rules)
    ] in
    record { value = c.of.ensures.value ∙ take_whole c.args.used.now c.loop-place.place c.loop-place.ids.items past c.loop-place.invariant }
