use Rattle.std.proofs.Common.{◌≡◌, ◌∙◌, ◌++◌, ◌∷◌, [], List, drop, sym, ap, subst, Option, Some, None, refl}
use Rattle.left_right.specs.Sides.{view}
use Rattle.chpw_table.specs.declared.change.AcceptedChange.{AcceptedChange}
use Rattle.chpw_changelog.specs.declared.change.NumberedChange.{NumberedChange}
use Rattle.chpw_changelog.specs.Changes.{named}
use Rattle.chpw_changelog.specs.Pens.{opening_state}
use Rattle.chpw_snapshots.specs.declared.snapshot.Operation.{Operation}
use Rattle.chpw_snapshots.specs.Known.{PublishedList}
use Rattle.chpw_snapshots.specs.Following.{Publishes, IsWaiting, CanBeShown}
use Rattle.chpw_snapshots.proofs.RowLemmas.{none_mapped}
use Rattle.chpw_snapshots.proofs.MoveLemmas.{of_some, put_some}
use Rattle.chpw_snapshots.proofs.writer.SnapshotWriter.wait.Goals as goal

pub invariant_of-self-in-Ok : goal.invariant_of-self-in-Ok
invariant_of-self-in-Ok g c =
    let b = g.D.LogName.book in
    let r = g.D.LogName.root in
    let list = c.self.inside.keeper in
    let w = c.in-Some.writer in
    let inv = of_some c.self.inside.writer w (λ w. Publishes b r (view w.desk.place) w.desk.shown.value list
    × IsWaiting b r list (drop w.behind w.log.items) c.self.inside.waiting)
    (sym c.take.ensures.value ∙ c.in-Some.is) c.self.invariant in
    let free : c.self.inside.waiting ≡ None = none_mapped (named (opening_state r)) c.self.inside.waiting
    (ap (λ (s : PublishedList). s.waiting) c.self.view_is ∙ c.requires.free) in
    let empty : drop w.behind w.log.items ≡ [] = subst (λ (o : Option NumberedChange). IsWaiting b r list (drop w.behind w.log.items) o) free inv.1 in
    let o : Operation = record { change = c.args.change; seen = c.mark-2.result } in
    let ops : drop c.append.new.self.behind c.append.new.self.log.items ≡ o ∷ [] = c.in-Ok.ensures.pending ∙ ap (λ (l : List Operation). l ++ o ∷ []) empty in
    let published : Publishes b r (view c.append.new.self.desk.place) c.append.new.self.desk.shown.value list =
    subst (λ d. Publishes b r (view d.place) d.shown.value list) (sym c.append.ensures.desk) inv.0 in
    let shown : CanBeShown (opening_state r) list c.args.change =
    subst (λ (l : List AcceptedChange). CanBeShown (opening_state r) l c.args.change)
    (sym (ap (λ (s : PublishedList). s.list) c.self.view_is)) c.requires.shown in
    put_some c.put_back-in-Ok.new.place c.append.new.self (λ w.
    Publishes b r (view w.desk.place) w.desk.shown.value list
    × IsWaiting b r list (drop w.behind w.log.items) (Some c.args.change))
    c.put_back-in-Ok.ensures.value (published, (o, ops, refl, c.mark-2.ensures.value.0, c.mark-2.ensures.value.1 ∙ c.front.ensures.value, shown))
