use Rattle.std.proofs.Common.{◌∙◌, List, [], sym, ap, subst}
use Rattle.left_right.specs.Sides.{view}
use Rattle.chpw_table.specs.declared.change.AcceptedChange.{AcceptedChange}
use Rattle.chpw_snapshots.specs.Following.{Publishes, ShowsList}
use Rattle.chpw_snapshots.proofs.MoveLemmas.{opens, settles, opening_version, published_first, ok_case}
use Rattle.chpw_snapshots.proofs.writer.SnapshotWriter.start.Goals as goal

pub new-requires-clause-rule : goal.new-requires-clause-rule
new-requires-clause-rule g c =
    let r = g.D.LogName.root in
    let v = c.of-first.ensures.value in
    let x = c.of-first.result in
    opens x [] (opening_version r c.args.rows x v.1 v.0 (ap (λ m. m.log) v.3 ∙ c.requires.root.1) (v.2 ∙ sym v.3) c.requires.rows.0)

pub publish_as-writer-requires : goal.publish_as-writer-requires
publish_as-writer-requires g c next is =
    settles _ _ c.in_ok-writer.writer.desk.shown.value next (rw (c.in_ok-writer.ensures.1) at is)

pub invariant_of-result : goal.invariant_of-result
invariant_of-result g c =
    let b = g.D.LogName.book in
    let r = g.D.LogName.root in
    let v = c.of-first.ensures.value in
    let x = c.of-first.result in
    let shows : ShowsList x.root.book x.root.log [] x =
    opening_version r c.args.rows x v.1 v.0 (ap (λ m. m.log) v.3 ∙ c.requires.root.1)
    (v.2 ∙ sym v.3) c.requires.rows.0 in
    let values = ok_case c.publish_as-writer.result.1 _ _ (c.publish_as-writer.ensures.succeeds tt) c.publish_as-writer.ensures.values in
    let rule = ok_case c.publish_as-writer.result.1 _ _ (c.publish_as-writer.ensures.succeeds tt) c.publish_as-writer.ensures.rule in
    let w = c.in_ok-writer.writer in
    let same = rw (c.in_ok-writer.ensures.1) at values.1.0 in
    let all = published_first b r (view w.desk.place) (view c.publish_as-writer.result.0.desk.place)
    x c.publish_as-writer.result.0.desk.shown.value (same ∙ c.in_ok-writer.ensures.0)
    (ap (λ m. m.book) v.3 ∙ c.requires.root.0) (ap (λ m. m.log) v.3 ∙ c.requires.root.1) shows rule.1 in (
      subst (λ (l : List AcceptedChange). Publishes b r (view c.publish_as-writer.result.0.desk.place)
          c.publish_as-writer.result.0.desk.shown.value l) (sym c.requires.keeper) all,
      values.1.1,
    )
