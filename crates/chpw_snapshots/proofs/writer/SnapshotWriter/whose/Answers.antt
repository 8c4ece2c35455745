use Rattle.std.proofs.Common.{◌≡◌, ◌∙◌, List, drop, ap, subst, true, false}
use Rattle.std.specs.Prelude.{IfSome, IfNone}
use Rattle.left_right.specs.Sides.{view}
use Rattle.chpw_table.specs.declared.change.AcceptedChange.{AcceptedChange}
use Rattle.chpw_table.specs.Versions.{shown}
use Rattle.chpw_changelog.specs.declared.change.Whose.{Whose}
use Rattle.chpw_changelog.specs.Pens.{opening_state}
use Rattle.chpw_snapshots.specs.declared.snapshot.Snapshot.{Snapshot}
use Rattle.chpw_snapshots.specs.Known.{PublishedList}
use Rattle.chpw_snapshots.specs.Preparing.{has_row}
use Rattle.chpw_snapshots.specs.Following.{Publishes, IsWaiting, IsWhose, IsPlaceOf}
use Rattle.chpw_snapshots.proofs.PlaceLemmas.{is_any_place, shown_found}
use Rattle.chpw_snapshots.proofs.MoveLemmas.{of_some}
use Rattle.chpw_snapshots.proofs.writer.SnapshotWriter.whose.Goals as goal

pub returns : goal.returns
returns g c =
    let b = g.D.LogName.book in
    let r = g.D.LogName.root in
    let list = c.self.inside.keeper in
    let w = c.in-Some.writer in
    let inv = of_some c.self.inside.writer w (λ w. Publishes b r (view w.desk.place) w.desk.shown.value list
    × IsWaiting b r list (drop w.behind w.log.items) c.self.inside.waiting) c.in-Some.is c.self.invariant in
    let is : IsWhose w.desk.shown.value.rows c.args.name.now c.whose.result =
    subst (λ (x : Snapshot). IsWhose x.rows c.args.name.now c.whose.result) c.published.ensures c.whose.ensures.value in
    let same : list ≡ c.args.self.now.list = ap (λ (s : PublishedList). s.list) c.self.view_is in
    let all = is_any_place (opening_state r) list w.desk.shown.value.rows c.args.name.now c.whose.result inv.0.2.names inv.0.2.added is in
    record {
      some = subst (λ (l : List AcceptedChange). IfSome c.whose.result (λ (whose : Whose).
          IsPlaceOf (opening_state r) l c.args.name.now whose × (has_row (opening_state r) l c.args.name.now ≡ true))) same all.0;
      shown = λ row e. shown_found (opening_state r) list w.desk.shown.value.rows c.args.name.now c.whose.result row
          inv.0.2.names inv.0.2.added is (inv.0.2.shows c.args.name.now
          ∙ (ap (λ (l : List AcceptedChange). shown (opening_state r) l c.args.name.now) same ∙ e));
      none = subst (λ (l : List AcceptedChange). IfNone c.whose.result (has_row (opening_state r) l c.args.name.now ≡ false)) same all.1;
    }
