use Rattle.std.proofs.Common.{◌≡◌, ◌∙◌, List, sym, ap, subst}
use mathlib.Core.List.{IsPrefix}
use Rattle.left_right.specs.Sides.{view}
use Rattle.chpw_table.specs.declared.change.AcceptedChange.{AcceptedChange}
use Rattle.chpw_snapshots.specs.Known.{Known}
use Rattle.chpw_snapshots.specs.declared.snapshot.Snapshot.{Snapshot}
use Rattle.chpw_snapshots.specs.Following.{IsOf, ShowsList, log_of, list_of, list_shown, front_by}
use Rattle.chpw_changelog.proofs.ListLemmas.{prefix_trans}
use Rattle.chpw_snapshots.proofs.MoveLemmas.{looks, of_some, renamed, shown_list}
use Rattle.chpw_snapshots.proofs.reader.SnapshotReader.shown_now.Goals as goal

pub enter_as-requires : goal.enter_as-requires
enter_as-requires g c x = looks _ _ x

pub returns-in-Ok-clause-later : goal.returns-in-Ok-clause-later
returns-in-Ok-clause-later g c =
    let b = g.D.LogName.book in
    let r = g.D.LogName.root in
    let rd = c.in-Some.reader in
    let is = sym c.take.ensures.value ∙ c.in-Some.is in
    let old = of_some c.self.inside.reader rd (λ q. IsOf b r (view q.place)) is c.self.invariant.0 in
    let looked = c.in-Ok.ensures.1 old.0 in
    let v = view rd.place in
    let w = view c.in-Ok.reading.place in
    let x : Snapshot = c.in-Ok.reading.part.value in
    let shows : ShowsList b r w.front x = renamed (log_of v) b v.root r w.front x old.1 old.2 looked.2 in
    let shown_is : list_of r c.shown_prefix-shown.result ≡ list_shown r x =
    c.shown_prefix-shown.ensures.value r ∙ ap (λ (z : Snapshot). list_shown r z) c.get.ensures in
    let list : w.front ≡ list_of r c.shown_prefix-shown.result = shown_list b r w.front x shows ∙ sym shown_is in
    let before : IsPrefix (list_of r c.self.inside.shown) v.front =
    subst (λ o. IsPrefix (list_of r c.self.inside.shown) (front_by o (λ q. view q.place))) is c.self.invariant.1 in
    let later : IsPrefix (list_of r c.self.inside.shown) (list_of r c.shown_prefix-shown.result) =
    subst (λ (l : List AcceptedChange). IsPrefix (list_of r c.self.inside.shown) l) list
    (prefix_trans (list_of r c.self.inside.shown) v.front w.front before looked.1) in
    subst (λ (l : List AcceptedChange). IsPrefix l (list_of r c.shown_prefix-shown.result)) (ap (λ (k : Known). k.seen) c.self.view_is) later
