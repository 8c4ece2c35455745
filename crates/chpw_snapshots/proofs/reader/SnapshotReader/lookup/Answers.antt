use Rattle.std.proofs.Common.{◌≡◌, ◌∙◌, refl, [], ◌∷◌, ◌++◌, append-nil, List, length, sym, ap, subst, rules}
use Rattle.std.specs.Prelude.{option_map}
use mathlib.Core.List.{IsPrefix}
use Rattle.left_right.specs.Sides.{view}
use Rattle.chpw_table.specs.declared.change.AcceptedChange.{AcceptedChange}
use Rattle.chpw_snapshots.specs.Known.{Known}
use Rattle.chpw_snapshots.specs.declared.snapshot.Snapshot.{Snapshot}
use Rattle.chpw_changelog.specs.Changes.{named}
use Rattle.chpw_changelog.specs.Pens.{changes_in, opening_state, opening_table}
use Rattle.chpw_snapshots.specs.Rows.{IsPositive, lookup_with, shown_in, all_rows, lookup_after}
use Rattle.chpw_snapshots.specs.Rising.{AreNextVersions}
use Rattle.chpw_snapshots.specs.Histories.{AreAccepted}
use Rattle.chpw_snapshots.specs.Following.{IsOf, ShowsList, log_of, list_of, list_shown, front_by}
use Rattle.chpw_changelog.proofs.ListLemmas.{prefix_trans}
use Rattle.chpw_snapshots.proofs.MoveLemmas.{looks, of_some, renamed, shown_list, shown_by, begins_shown}
use Rattle.chpw_snapshots.proofs.RiseLemmas.{lookup_rises}
use Rattle.chpw_snapshots.proofs.reader.SnapshotReader.lookup.Goals as goal

pub enter_as-requires : goal.enter_as-requires
enter_as-requires g c x = looks _ _ x

pub invariant_of-self-in-Ok : goal.invariant_of-self-in-Ok
invariant_of-self-in-Ok g c =
    let b = g.D.LogName.book in
    let r = g.D.LogName.root in
    let rd = c.in-Some.reader in
    let is = sym c.take.ensures.value ∙ c.in-Some.is in
    let old = of_some c.self.inside.reader rd (λ q. IsOf b r (view q.place)) is c.self.invariant.0 in
    let looked = c.in-Ok.ensures.1 old.0 in
    let v = view rd.place in
    let w = view c.in-Ok.reading.place in
    let x : Snapshot = c.in-Ok.reading.part.value in
    let shows : ShowsList b r w.front x = renamed (log_of v) b v.root r w.front x old.1 old.2 looked.2 in
    let shown_is : list_of r c.shown_prefix-shown.result ≡ list_shown r x =
    c.shown_prefix-shown.ensures.value r ∙ ap (λ (z : Snapshot). list_shown r z) c.get-version.ensures in
    let left = c.leave.ensures.1 in
    let list : w.front ≡ list_of r c.shown_prefix-shown.result = shown_list b r w.front x shows ∙ sym shown_is in
    let whole : IsPrefix (list_of r c.shown_prefix-shown.result) (view c.leave.result.place).front =
    ([], append-nil (list_of r c.shown_prefix-shown.result) ∙ (sym list ∙ sym (ap (λ z. z.front) left))) in (
      (ap (λ z. z.known) left ∙ looked.0.0, ap log_of left ∙ (looked.0.1 ∙ old.1), ap (λ z. z.root) left ∙ (looked.0.2 ∙ old.2)),
      whole,
      c.self.invariant.2,
      (
        ap (λ m. m.book) (c.shown_prefix-shown.ensures.parts.1 ∙ ap (λ (z : Snapshot). z.seen) c.get-version.ensures) ∙ shows.seen_book,
        c.shown_prefix-shown.ensures.parts.0
            ∙ (ap (λ (z : Snapshot). z.len) c.get-version.ensures ∙ (shows.len_is ∙ ap (λ (l : List AcceptedChange). length l) list)),
      ),
    )

pub returns-else-not-begins-clause-found : goal.returns-else-not-begins-clause-found
returns-else-not-begins-clause-found g c =
    let b = g.D.LogName.book in
    let r = g.D.LogName.root in
    let rd = c.in-Some.reader in
    let name = c.args.name.now in
    let is = sym c.take.ensures.value ∙ c.in-Some.is in
    let old = of_some c.self.inside.reader rd (λ q. IsOf b r (view q.place)) is c.self.invariant.0 in
    let looked = c.in-Ok.ensures.1 old.0 in
    let v = view rd.place in
    let w = view c.in-Ok.reading.place in
    let x : Snapshot = c.in-Ok.reading.part.value in
    let shows : ShowsList b r w.front x = renamed (log_of v) b v.root r w.front x old.1 old.2 looked.2 in
    let shown_is : list_of r c.shown_prefix-shown.result ≡ list_shown r x =
    c.shown_prefix-shown.ensures.value r ∙ ap (λ (z : Snapshot). list_shown r z) c.get-version.ensures in
    let list : w.front ≡ list_of r c.shown_prefix-shown.result = shown_list b r w.front x shows ∙ sym shown_is in
    let before : IsPrefix (list_of r c.self.inside.shown) v.front =
    subst (λ o. IsPrefix (list_of r c.self.inside.shown) (front_by o (λ q. view q.place))) is c.self.invariant.1 in
    let later : IsPrefix (list_of r c.self.inside.shown) (list_of r c.shown_prefix-shown.result) =
    subst (λ (l : List AcceptedChange). IsPrefix (list_of r c.self.inside.shown) l) list
    (prefix_trans (list_of r c.self.inside.shown) v.front w.front before looked.1) in
    let told = ap (λ (k : Known). k.told) c.self.view_is in
    let some : x.len ≡ length (changes_in r x.seen.log ++ named (opening_state r) x.last ∷ [])
    → IsPrefix c.self.inside.told (changes_in r x.seen.log ++ named (opening_state r) x.last ∷ []) =
    subst (λ (z : Snapshot). z.len ≡ length (changes_in r z.seen.log ++ named (opening_state r) z.last ∷ [])
    → IsPrefix c.self.inside.told (changes_in r z.seen.log ++ named (opening_state r) z.last ∷ []))
    c.get-version.ensures (c.if-not-begins.ensures.some refl) in
    let none : x.len ≡ 0 → c.self.inside.told ≡ [] =
    subst (λ (z : Snapshot). z.len ≡ 0 → c.self.inside.told ≡ []) c.get-version.ensures (c.if-not-begins.ensures.none refl) in
    let begins : IsPrefix c.args.self.now.told (list_shown r x) =
    subst (λ (l : List AcceptedChange). IsPrefix l (list_shown r x)) told (begins_shown b r w.front c.self.inside.told x shows some none) in
    let read = c.lookup-found.ensures.value ∙ ap (λ (z : Snapshot). option_map (lookup_with z.rows.policy z.rows.seen)
    (shown_in (all_rows z.rows) name)) c.get-version.ensures in
    let found : c.lookup-found.result ≡ lookup_after (opening_table r) (list_of r c.shown_prefix-shown.result) name =
    read ∙ shown_by b r w.front x name shows ∙ ap (λ (l : List AcceptedChange). lookup_after (opening_table r) l name) (sym shown_is) in
    let rise : AreNextVersions (opening_state r) [] (list_of r c.shown_prefix-shown.result) =
    subst (λ (l : List AcceptedChange). AreNextVersions (opening_state r) [] l) list shows.rise in
    record {
      later = subst (λ (l : List AcceptedChange). IsPrefix l (list_of r c.shown_prefix-shown.result)) (ap (λ (k : Known). k.seen) c.self.view_is) later;
      after = subst (λ (l : List AcceptedChange). IsPrefix c.args.self.now.told l) (sym shown_is) begins;
      accepted = subst (λ (l : List AcceptedChange). AreAccepted (opening_state r) l) list shows.accepted;
      shown = found;
      rises = lookup_rises (opening_table r) (list_of r c.shown_prefix-shown.result) name c.lookup-found.result rise found;
      positive = c.lookup-found.ensures.positive (subst (λ (z : Snapshot). IsPositive z.rows) (sym c.get-version.ensures) shows.positive);
      told = (search rules, search rules);
    }
