use Rattle.std.proofs.Common.{◌≡◌, ◌∙◌, ◌+◌, ◌<◌, ◌++◌, ◌∷◌, [], List, length, drop, sym, ap, subst, Option, None}
use Rattle.std.specs.Prelude.{IfSome, option_map}
use Rattle.left_right.specs.Sides.{view}
use Rattle.crossbeam_utils.specs.Register.{TurnsAt}
use Rattle.chpw_table.specs.declared.change.AcceptedChange.{AcceptedChange}
use Rattle.chpw_changelog.specs.declared.change.NumberedChange.{NumberedChange}
use Rattle.chpw_changelog.specs.Changes.{named}
use Rattle.chpw_changelog.specs.Pens.{opening_state}
use Rattle.chpw_snapshots.specs.declared.snapshot.Snapshot.{Snapshot}
use Rattle.chpw_snapshots.specs.Known.{PublishedList}
use Rattle.chpw_snapshots.specs.Histories.{AreAccepted}
use Rattle.chpw_snapshots.specs.Following.{Publishes, IsWaiting, IsRuled, Published}
use Rattle.chpw_snapshots.proofs.MoveLemmas.{of_some, put_some, ok_case, published_at, published_after}
use Rattle.chpw_snapshots.proofs.writer.SnapshotWriter.publish.Goals as goal

pub publish_as-writer-requires : goal.publish_as-writer-requires
publish_as-writer-requires g c next is =
    let b = g.D.LogName.book in
    let r = g.D.LogName.root in
    let list = c.self.inside.keeper in
    let w = c.in-Some-take.writer in
    let inv = of_some c.self.inside.writer w (λ w. Publishes b r (view w.desk.place) w.desk.shown.value list
    × IsWaiting b r list (drop w.behind w.log.items) c.self.inside.waiting)
    (sym c.take.ensures.value ∙ c.in-Some-take.is) c.self.invariant in
    let waits = subst (λ (o : Option NumberedChange). IsWaiting b r list (drop w.behind w.log.items) o) c.in-Some.is inv.1 in
    let room : length list + 1 < 2147483648 = subst (λ (l : List AcceptedChange). length l + 1 < 2147483648)
    (sym (ap (λ (s : PublishedList). s.list) c.self.view_is)) c.requires.room in
    let accepts = subst (λ (s : PublishedList). IfSome s.waiting (λ change. AreAccepted (opening_state r) (s.list ++ change ∷ [])))
    (sym c.self.view_is) c.requires.accepted in
    let made : AreAccepted (opening_state r) (list ++ named (opening_state r) c.in-Some.change ∷ []) =
    subst (λ (o : Option NumberedChange). IfSome (option_map (named (opening_state r)) o)
    (λ change. AreAccepted (opening_state r) (list ++ change ∷ []))) c.in-Some.is accepts in
    let done : AreAccepted (opening_state r) (list ++ named (opening_state r) waits.0.change ∷ []) =
    subst (λ (n : NumberedChange). AreAccepted (opening_state r) (list ++ named (opening_state r) n ∷ [])) (sym waits.2) made in
    let after = rw waits.1 at is in
    subst (λ (y : Snapshot). TurnsAt IsRuled w.desk.place.id (view w.desk.place) w.desk.shown.value y Published) (sym after)
    (published_at w.desk.place.id b r (view w.desk.place) w.desk.shown.value list waits.0 inv.0 waits.3 waits.4 waits.5 done room)

pub invariant_of-self : goal.invariant_of-self
invariant_of-self g c =
    let b = g.D.LogName.book in
    let r = g.D.LogName.root in
    let list = c.self.inside.keeper in
    let w = c.in-Some-take.writer in
    let inv = of_some c.self.inside.writer w (λ w. Publishes b r (view w.desk.place) w.desk.shown.value list
    × IsWaiting b r list (drop w.behind w.log.items) c.self.inside.waiting)
    (sym c.take.ensures.value ∙ c.in-Some-take.is) c.self.invariant in
    let waits = subst (λ (o : Option NumberedChange). IsWaiting b r list (drop w.behind w.log.items) o) c.in-Some.is inv.1 in
    let room : length list + 1 < 2147483648 = subst (λ (l : List AcceptedChange). length l + 1 < 2147483648)
    (sym (ap (λ (s : PublishedList). s.list) c.self.view_is)) c.requires.room in
    let accepts = subst (λ (s : PublishedList). IfSome s.waiting (λ change. AreAccepted (opening_state r) (s.list ++ change ∷ [])))
    (sym c.self.view_is) c.requires.accepted in
    let made : AreAccepted (opening_state r) (list ++ named (opening_state r) c.in-Some.change ∷ []) =
    subst (λ (o : Option NumberedChange). IfSome (option_map (named (opening_state r)) o)
    (λ change. AreAccepted (opening_state r) (list ++ change ∷ []))) c.in-Some.is accepts in
    let done : AreAccepted (opening_state r) (list ++ named (opening_state r) waits.0.change ∷ []) =
    subst (λ (n : NumberedChange). AreAccepted (opening_state r) (list ++ named (opening_state r) n ∷ [])) (sym waits.2) made in
    let values = ok_case c.publish_as-writer.result.1 _ _ (c.publish_as-writer.ensures.succeeds tt) c.publish_as-writer.ensures.values in
    let rule = ok_case c.publish_as-writer.result.1 _ _ (c.publish_as-writer.ensures.succeeds tt) c.publish_as-writer.ensures.rule in
    let x = w.desk.shown.value in
    let y = c.publish_as-writer.result.0.desk.shown.value in
    let after = rw waits.1 at values.1.0 in
    let all = published_after b r (view w.desk.place) (view c.publish_as-writer.result.0.desk.place)
    x y list waits.0 inv.0 waits.3 waits.4 waits.5 done room after rule.1 in
    let longer : list ++ named (opening_state r) waits.0.change ∷ [] ≡ c.append.new.self =
    ap (λ (n : NumberedChange). list ++ named (opening_state r) n ∷ []) waits.2 ∙ sym c.append.ensures.value in
    let all' = subst (λ (l : List AcceptedChange). Publishes b r (view c.publish_as-writer.result.0.desk.place) y l) longer all in
    put_some c.put_back.new.place c.publish_as-writer.result.0 (λ w.
    Publishes b r (view w.desk.place) w.desk.shown.value c.append.new.self
    × IsWaiting b r c.append.new.self (drop w.behind w.log.items) None)
    c.put_back.ensures.value (all', values.1.1)
