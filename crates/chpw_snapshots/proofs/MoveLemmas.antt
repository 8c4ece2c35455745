-- What each step on the versions keeps.
use Rattle.std.proofs.Common.{◌≡◌, ◌≢◌, ℕ, ◌+◌, ◌<◌, ◌%◌, List, [], ◌∷◌, ◌++◌, length, true}
use Rattle.std.proofs.Common.{refl, sym, ◌∙◌, ap, subst, ⊎_elim, arith, length-append, append-nil, set, Option}
use Rattle.std.proofs.Common.{Some, IsSomeAnd, Result, Ok, Err, IsOk, MatchResult}
use Rattle.std.specs.Prelude.{option_map}
use mathlib.Core.Option.{some}
use mathlib.Core.List.{IsPrefix}
use lib.ListN.{get_elem?}
use Rattle.crossbeam_utils.specs.Register.{Admits, TurnsAt, Forks, Merges}
use Rattle.atomic_table.proofs.Lists.{at_set, at_snoc}
use Rattle.logbook.specs.Pages.{Book as LogbookName}
use Rattle.chpw_rules.specs.declared.name.Name.{Name}
use Rattle.chpw_table.specs.declared.change.AcceptedChange.{AcceptedChange}
use Rattle.chpw_table.specs.Versions.{Shown, shown_count}
use Rattle.chpw_changelog.specs.declared.entry.LogEntry.{LogEntry}
use Rattle.chpw_changelog.specs.Changes.{named}
use Rattle.chpw_changelog.specs.Pens.{changes_in, opening_state, opening_table}
use Rattle.chpw_changelog.proofs.ListLemmas.{prefix_self, prefix_trans, prefix_same}
use Rattle.chpw_snapshots.specs.declared.row.Row.{Row}
use Rattle.chpw_snapshots.specs.declared.snapshot.Snapshot.{Snapshot}
use Rattle.chpw_snapshots.specs.declared.snapshot.Operation.{Operation}
use Rattle.chpw_snapshots.specs.declared.view.View.{View}
use Rattle.chpw_snapshots.specs.Rows.{Rowed, names_of_rows, all_rows, shown_in, ShowsOpening, lookup_with, lookup_after}
use Rattle.chpw_snapshots.specs.Histories.{AreAccepted}
use Rattle.chpw_snapshots.specs.Following.{applied, CanBeShown, list_by, list_shown, ShowsList}
use Rattle.chpw_snapshots.specs.Following.{IsRuled, Publishes, IsTied, Looked, Published, Settled, unknown, log_of}
use Rattle.chpw_snapshots.proofs.RiseLemmas.{next_on}
use Rattle.chpw_snapshots.proofs.AfterLemmas.{names_after, added_names_after, kept_after, seen_after, policy_after, shows_after, positive_after}

abbrev AllTied : Snapshot → List AcceptedChange → List View → Type 0
AllTied x list views = (seat : ℕ) (v : View) → get_elem? views seat ≡ some v → IsTied x list v

unknown_tied : (x : Snapshot) (list : List AcceptedChange) → IsTied x list unknown
unknown_tied x list t = absurd (cc)

moved : (x y : Snapshot) (list n : List AcceptedChange) (v : View) → y.root ≡ x.root → IsTied x list v → IsTied y (list ++ n) v
moved x y list n v e h k = let t = h k in (t.0 ∙ sym (ap (λ m. m.book) e), t.1 ∙ sym (ap (λ m. m.log) e), prefix_trans v.front list (list ++ n) t.2 (n, refl))

same : (x : Snapshot) (list : List AcceptedChange) (views : List View) (seat : ℕ) (w : View)
    → AllTied x list views → IsTied x list w → AllTied x list (set views seat w)
same x list views seat w each own j u at =
    ⊎_elim (λ (t : (j ≡ seat) × (w ≡ u)). subst (λ z. IsTied x list z) t.1 own)
    (λ (t : (j ≢ seat) × (get_elem? views j ≡ some u)). each j u t.1)
    (at_set views seat j w u at)

snoc : (x : Snapshot) (list : List AcceptedChange) (views : List View) (w : View) → AllTied x list views → IsTied x list w → AllTied x list (views ++ w ∷ [])
snoc x list views w each own j u at = ⊎_elim (each j u) (λ (e : w ≡ u). subst (λ z. IsTied x list z) e own) (at_snoc views w u j at)

pub admits : Admits IsRuled unknown
admits x views (list, is, each) = (list, is, snoc x list views unknown each (unknown_tied x list))

pub opens : (x : Snapshot) (list : List AcceptedChange) → ShowsList x.root.book x.root.log list x → IsRuled x (unknown ∷ [])
opens x list is = (list, is, snoc x list [] unknown (λ j u at. absurd (cc)) (unknown_tied x list))

pub renamed : (b b' : LogbookName) (r r' : List LogEntry) (list : List AcceptedChange) (x : Snapshot)
    → b ≡ b' → r ≡ r' → ShowsList b r list x → ShowsList b' r' list x
renamed b b' r r' list x e f is = subst (λ c. ShowsList c r' list x) e (subst (λ l. ShowsList b l list x) f is)

pub looks : (seat : ℕ) (v : View) (x : Snapshot) → TurnsAt IsRuled seat v x x Looked
looks seat v x views (list, is, each) at =
    let mine = each seat v at in
    let w : View = record v { front = list } in (
      w,
      (list, is, same x list views seat w each (λ k. let t = mine k in (t.0, t.1, prefix_self list))),
      λ k. let t = mine k in ((k, refl, refl), t.2, renamed x.root.book (log_of v) x.root.log v.root list x (sym t.0) (sym t.1) is),
    )

-- the version with one operation more shows the list with one change more
pub goes_on : (b : LogbookName) (r : List LogEntry) (list : List AcceptedChange) (x : Snapshot) (o : Operation)
    → ShowsList b r list x
    → o.seen.book ≡ b → changes_in r o.seen.log ≡ list → CanBeShown (opening_state r) list o.change
    → AreAccepted (opening_state r) (list ++ named (opening_state r) o.change ∷ [])
    → length list + 1 < 2147483648 → ShowsList b r (list ++ named (opening_state r) o.change ∷ []) (applied x o)
goes_on b r list x o is ob ol can done room =
    let c : AcceptedChange = named (opening_state r) o.change in
    let a = length-append list (c ∷ []) in
    let i = is.len_is in
    let n = is.seen_is in
    let few = is.few in
    let counted : (x.rows.seen + 1) % 4294967296 ≡ (opening_table r).seen + length (list ++ c ∷ []) = omega (arith, a, n, few, room) in
    record {
      root_book = is.root_book;
      root_log = is.root_log;
      seen_book = ob;
      len_is = omega (arith, a, i, room);
      few = few;
      seen_is = seen_after o.change x.rows ∙ counted;
      names = names_after o.change x.rows ∙ is.names;
      added = added_names_after (opening_state r) list o.change x.rows is.added can.0;
      kept = kept_after o.change x.rows ∙ is.kept;
      policy = policy_after (opening_state r) list o.change x.rows is.policy;
      shows = λ name. shows_after (opening_state r) list o.change x.rows is.names is.added is.kept can.0 name (is.shows name);
      rise = next_on (opening_state r) [] list c is.rise can.1;
      accepted = done;
      positive = positive_after (opening_state r) list o.change x.rows is.policy can.1 is.positive;
      last = λ h. ap (λ l. l ++ c ∷ []) (sym ol);
    }

-- the writer, which knows the whole list, makes the change of one operation
pub published_at : (seat : ℕ) (b : LogbookName) (r : List LogEntry) (v : View) (x : Snapshot)
    (list : List AcceptedChange) (o : Operation) → Publishes b r v x list → o.seen.book ≡ b → changes_in r o.seen.log ≡ list
    → CanBeShown (opening_state r) list o.change → AreAccepted (opening_state r) (list ++ named (opening_state r) o.change ∷ [])
    → length list + 1 < 2147483648 → TurnsAt IsRuled seat v x (applied x o) Published
published_at seat b r v x list o sh ob ol can done room views (all, is, each) at =
    let mine = each seat v at sh.0.0 in
    let pre : IsPrefix list all = subst (λ (l : List AcceptedChange). IsPrefix l all) sh.1 mine.2 in
    let long : length list ≡ length all = sym sh.2.len_is ∙ is.len_is in
    let whole : list ≡ all = prefix_same list all all pre (prefix_self all) long in
    let y : Snapshot = applied x o in
    let c : AcceptedChange = named (opening_state r) o.change in
    let w : View = record v { front = v.front ++ named (opening_state v.root) o.change ∷ [] } in
    let next : ShowsList y.root.book y.root.log (list ++ c ∷ []) y =
    renamed b y.root.book r y.root.log (list ++ c ∷ []) y
    (sym sh.2.root_book) (sym sh.2.root_log) (goes_on b r list x o sh.2 ob ol can done room) in
    let told : w.front ≡ list ++ c ∷ [] =
    ap (λ (l : List AcceptedChange). l ++ named (opening_state v.root) o.change ∷ []) sh.1
    ∙ ap (λ l. list ++ named (opening_state l) o.change ∷ []) sh.0.2 in
    let own : IsPrefix w.front (list ++ c ∷ []) = subst (λ (l : List AcceptedChange). IsPrefix l (list ++ c ∷ [])) (sym told) (prefix_self (list ++ c ∷ [])) in
    let before : AllTied x list views = subst (λ (l : List AcceptedChange). AllTied x l views) (sym whole) each in (
      w,
      (
        list ++ c ∷ [],
        next,
        same y (list ++ c ∷ []) views seat w
            (λ j u t. moved x y list (c ∷ []) u refl (before j u t)) (λ k. (mine.0, mine.1, own)),
      ),
      refl,
    )

pub published_after : (b : LogbookName) (r : List LogEntry) (v w : View) (x y : Snapshot)
    (list : List AcceptedChange) (o : Operation) → Publishes b r v x list → o.seen.book ≡ b → changes_in r o.seen.log ≡ list
    → CanBeShown (opening_state r) list o.change → AreAccepted (opening_state r) (list ++ named (opening_state r) o.change ∷ [])
    → length list + 1 < 2147483648
    → y ≡ applied x o → Published v x y w → Publishes b r w y (list ++ named (opening_state r) o.change ∷ [])
published_after b r v w x y list o sh ob ol can done room is told =
    let c : AcceptedChange = named (opening_state r) o.change in (
      (ap (λ (z : View). z.known) told ∙ sh.0.0, ap log_of told ∙ sh.0.1, ap (λ (z : View). z.root) told ∙ sh.0.2),
      ap (λ (z : View). z.front) told
          ∙ (ap (λ (l : List AcceptedChange). l ++ named (opening_state v.root) y.last ∷ []) sh.1
          ∙ (ap (λ l. list ++ named (opening_state l) y.last ∷ []) sh.0.2
          ∙ ap (λ (z : Snapshot). list ++ named (opening_state r) z.last ∷ []) is)),
      subst (λ (z : Snapshot). ShowsList b r (list ++ c ∷ []) z) (sym is) (goes_on b r list x o sh.2 ob ol can done room),
    )

pub settles : (seat : ℕ) (v : View) (x y : Snapshot) → y ≡ x → TurnsAt IsRuled seat v x y Settled
settles seat v x y e = subst (λ (z : Snapshot). TurnsAt IsRuled seat v x z Settled) (sym e) (stays seat v x)
  where
    stays : (seat : ℕ) (v : View) (x : Snapshot) → TurnsAt IsRuled seat v x x Settled
    stays seat v x views (list, is, each) at =
        let w : View = record {
          known = true;
          number = x.root.book.number;
          log_name = x.root.book.log_name;
          cells_name = x.root.book.cells_name;
          root = x.root.log;
          front = [];
        } in
        (w, (list, is, same x list views seat w each (λ k. (refl, refl, (list, refl)))), ((refl, refl, refl), refl))

-- the version at the opening shows no change
pub opening_version : (r : List LogEntry) (rows : Rowed) (x : Snapshot) → x.len ≡ 0 → x.rows ≡ rows
    → x.root.log ≡ r → x.seen ≡ x.root → ShowsOpening (opening_table r) rows → ShowsList x.root.book x.root.log [] x
opening_version r rows x n same log seen shows =
    at (subst (λ l. ShowsOpening (opening_table l) x.rows) (sym log) (subst (λ (z : Rowed). ShowsOpening (opening_table r) z) (sym same) shows))
  where
    at : ShowsOpening (opening_table x.root.log) x.rows → ShowsList x.root.book x.root.log [] x
    at all = record {
      root_book = refl;
      root_log = refl;
      seen_book = ap (λ m. m.book) seen;
      len_is = n;
      few = all.few;
      seen_is = (let e = all.seen in omega (arith, e));
      names = all.names;
      added = ap names_of_rows all.added;
      kept = all.kept;
      policy = all.policy;
      shows = λ name. ap (λ (added : List Row). shown_in (x.rows.rows ++ added) name) all.added
          ∙ (ap (λ (rows : List Row). shown_in rows name) (append-nil x.rows.rows) ∙ all.shows name);
      rise = tt;
      accepted = record { history = []; legal = tt; list_is = refl };
      positive = all.positive;
      last = λ h. absurd (omega arith);
    }

pub published_first : (b : LogbookName) (r : List LogEntry) (v w : View) (x y : Snapshot) → y ≡ x
    → x.root.book ≡ b → x.root.log ≡ r → ShowsList x.root.book x.root.log [] x → Settled v x y w → Publishes b r w y []
published_first b r v w x y e eb er is told = (
  (told.0.0, told.0.1 ∙ (ap (λ (z : Snapshot). z.root.book) e ∙ eb), told.0.2 ∙ (ap (λ (z : Snapshot). z.root.log) e ∙ er)),
  told.1,
  subst (λ (z : Snapshot). ShowsList b r [] z) (sym e) (renamed x.root.book b x.root.log r [] x eb er is),
)

pub forks : (seat : ℕ) (v : View) → Forks IsRuled seat v v v
forks seat v x views (list, is, each) at =
    let mine = each seat v at in
    (list, is, snoc x list (set views seat v) v (same x list views seat v each mine) mine)

pub merges : (seat : ℕ) (v : View) (other : ℕ) (w : View) → Merges IsRuled seat v other w w unknown
merges seat v other w x views (list, is, each) at apart there =
    let theirs : IsTied x list w = ⊎_elim (λ (t : (other ≡ seat) × (w ≡ w)). absurd (apart t.0))
    (λ (t : (other ≢ seat) × (get_elem? views other ≡ some w)). each other w t.1)
    (at_set views seat other w w there) in
    (list, is, same x list (set views seat w) other unknown (same x list views seat w each theirs) (unknown_tied x list))

pub of_some : {R : Type 0} (o : Option R) (r : R) (P : R → Type 0) → o ≡ Some r → IsSomeAnd o P → P r
of_some {R} o r P is h = subst (λ (q : Option R). IsSomeAnd q P) is h

pub put_some : {R : Type 0} (o : Option R) (r : R) (P : R → Type 0) → o ≡ Some r → P r → IsSomeAnd o P
put_some {R} o r P is h = subst (λ (q : Option R). IsSomeAnd q P) (sym is) h

pub ok_case : {A E : Type 0} (r : Result A E) (P : A → Type 0) (Q : E → Type 0) → IsOk r → MatchResult r P Q → (a : A) × P a
ok_case (Ok a) P Q ok m = (a, m)
ok_case (Err e) P Q ok m = absurd (cc)

-- the list that a version shows is the one that its mark and last change make
pub shown_list : (b : LogbookName) (r : List LogEntry) (list : List AcceptedChange) (x : Snapshot) → ShowsList b r list x → list ≡ list_shown r x
shown_list b r [] x is = sym (ap (λ n. list_by (changes_in r x.seen.log) (named (opening_state r) x.last) n) is.len_is)
shown_list b r (c ∷ cs) x is = is.last (omega arith) ∙ sym (ap (λ n. list_by (changes_in r x.seen.log) (named (opening_state r) x.last) n) is.len_is)

-- what its rows show is what that list shows
pub shown_by : (b : LogbookName) (r : List LogEntry) (list : List AcceptedChange) (x : Snapshot) (name : Name) → ShowsList b r list x
    → option_map (lookup_with x.rows.policy x.rows.seen) (shown_in (all_rows x.rows) name) ≡ lookup_after (opening_table r) (list_shown r x) name
shown_by b r list x name is =
    let e = shown_list b r list x is in
    ap (λ p. option_map (lookup_with p x.rows.seen) (shown_in (all_rows x.rows) name)) is.policy
    ∙ (ap (λ n. option_map (lookup_with (shown_count (opening_state r) list) n) (shown_in (all_rows x.rows) name)) is.seen_is
    ∙ (ap (λ (s : Option Shown). option_map (lookup_with (shown_count (opening_state r) list) ((opening_table r).seen + length list)) s) (is.shows name)
    ∙ ap (λ l. lookup_after (opening_table r) l name) e))

-- what is told begins it, where `Front::begins` says so
pub begins_shown : (b : LogbookName) (r : List LogEntry) (list told : List AcceptedChange) (x : Snapshot) → ShowsList b r list x
    → (x.len ≡ length (changes_in r x.seen.log ++ named (opening_state r) x.last ∷ [])
    → IsPrefix told (changes_in r x.seen.log ++ named (opening_state r) x.last ∷ []))
    → (x.len ≡ 0 → told ≡ []) → IsPrefix told (list_shown r x)
begins_shown b r [] told x is tells empty = subst (λ (l : List AcceptedChange). IsPrefix l (list_shown r x)) (sym (empty is.len_is)) (list_shown r x, refl)
begins_shown b r (c ∷ cs) told x is tells empty =
    let all = is.last (omega arith) in
    let long : x.len ≡ length (changes_in r x.seen.log ++ named (opening_state r) x.last ∷ []) = is.len_is ∙ ap length all in
    subst (λ (l : List AcceptedChange). IsPrefix told l) (sym all ∙ shown_list b r (c ∷ cs) x is) (tells long)
