-- The rows after one change more show what the list with it shows.
use Rattle.std.proofs.Common.{◌≡◌, ℕ, suc, ◌+◌, ◌<◌, ◌≤◌, ◌%◌, List, [], ◌∷◌, ◌++◌, length, Bool, true, false, nat_lt}
use Rattle.std.proofs.Common.{Option, Some, None, refl, sym, ◌∙◌, ap, subst, arith, append-nil}
use Rattle.std.specs.Prelude.{All, ◌&&◌, ◌||◌}
use Rattle.std.proofs.lemmas.Bool.Decides.{nat_tests}
use Rattle.std.proofs.lemmas.List.Sums.{fold-append}
use Rattle.std.specs.BTreeSet.{insert_key}
use Rattle.chpw_rules.specs.declared.name.Name.{Name}
use Rattle.chpw_rules.specs.Names.{name_cmp}
use Rattle.chpw_table.specs.State.{State, kept_count}
use Rattle.chpw_table.specs.declared.change.AcceptedChange.{AcceptedChange}
use Rattle.chpw_table.specs.Versions.{Shown, shown, shown_count, count_after}
use Rattle.chpw_changelog.specs.declared.change.KeysChange.{KeysChange}
use Rattle.chpw_changelog.specs.declared.change.KeysChange.TheVariants.{Key, Adopted, Lifted, Removed}
use Rattle.chpw_changelog.specs.declared.change.Whose.TheVariants.{Number, Short}
use Rattle.chpw_changelog.specs.declared.change.NumberedChange.{NumberedChange}
use Rattle.chpw_changelog.specs.declared.change.NumberedChange.TheVariants.{Keys, Count}
use Rattle.chpw_changelog.specs.Changes.{name_at, short_name, change_of_name, named}
use Rattle.chpw_snapshots.specs.declared.row.Row.{Row}
use Rattle.chpw_snapshots.specs.Rows.{Rowed, names_of_rows, names_of, place_in, row_after, changed_at, adopts}
use Rattle.chpw_snapshots.specs.Rows.{blank_row, added_at, added_limit, rows_after, all_rows, shown_in, HasPositive}
use Rattle.chpw_snapshots.specs.Rows.{with_row, IsPositive}
use Rattle.chpw_snapshots.specs.Rising.{IsNextVersion}
use Rattle.chpw_snapshots.specs.Preparing.{has_name, with_adopted_name, added_names}
use Rattle.chpw_snapshots.specs.Following.{IsNumberOf, HasPlace}
use Rattle.chpw_snapshots.proofs.RowLemmas.{names_changed, changed_for, shown_one, changed_shows, shows_behind}
use Rattle.chpw_snapshots.proofs.RowLemmas.{added_shows, not_added_shows, BringsPositive, changed_positive}
use Rattle.chpw_snapshots.proofs.RowLemmas.{more_positive, blank_positive, placed_number, numbered_there}
use Rattle.chpw_snapshots.proofs.RowLemmas.{either_way, unplaced_missing, shown_more, count_more}
use Rattle.chpw_snapshots.proofs.AddedLemmas.{names_with_row}

pub names_after : (c : NumberedChange) (r : Rowed) → names_of_rows (rows_after c r).rows ≡ names_of_rows r.rows
names_after (Keys (Number n) k) r = names_changed r.kept k n r.rows
names_after (Keys (Short s) k) r = refl
names_after (Count n) r = refl

pub kept_after : (c : NumberedChange) (r : Rowed) → (rows_after c r).kept ≡ r.kept
kept_after (Keys (Number n) k) r = refl
kept_after (Keys (Short s) k) r = refl
kept_after (Count n) r = refl

pub seen_after : (c : NumberedChange) (r : Rowed) → (rows_after c r).seen ≡ (r.seen + 1) % 4294967296
seen_after (Keys (Number n) k) r = refl
seen_after (Keys (Short s) k) r = refl
seen_after (Count n) r = refl

count_same : (n : ℕ) (name : Name) (k : KeysChange) → count_after n (change_of_name name k) ≡ n
count_same n name (Key kvno count) = refl
count_same n name (Adopted kvno count) = refl
count_same n name (Lifted kvno) = refl
count_same n name Removed = refl

pub policy_after : (opening : State) (list : List AcceptedChange) (c : NumberedChange) (r : Rowed)
    → r.policy ≡ shown_count opening list → (rows_after c r).policy ≡ shown_count opening (list ++ named opening c ∷ [])
policy_after opening list (Keys (Number n) k) r e =
    e ∙ sym (count_more opening list (named opening (Keys (Number n) k)) ∙ count_same (shown_count opening list) (name_at opening.principals n) k)
policy_after opening list (Keys (Short s) k) r e =
    e ∙ sym (count_more opening list (named opening (Keys (Short s) k)) ∙ count_same (shown_count opening list) (short_name s) k)
policy_after opening list (Count n) r e = sym (count_more opening list (named opening (Count n)))

-- ---- the names that were added

length_names : (rows : List Row) → length (names_of_rows rows) ≡ length rows
length_names [] = refl
length_names (r ∷ rs) = ap suc (length_names rs)

names_more : (opening : State) (list : List AcceptedChange) (c : AcceptedChange)
    → added_names opening (list ++ c ∷ []) ≡ with_adopted_name opening (added_names opening list) c
names_more opening list c = fold-append _ _ list (c ∷ [])

-- a change of a name that is there adds none
there_adds_none : (opening : State) (names : List Name) (name : Name) (k : KeysChange)
    → (has_name (names_of opening) name || has_name names name) ≡ true → with_adopted_name opening names (change_of_name name k) ≡ names
there_adds_none opening names name (Key kvno count) h = refl
there_adds_none opening names name (Adopted kvno count) h = rw h refl
there_adds_none opening names name (Lifted kvno) h = refl
there_adds_none opening names name Removed h = refl

-- nor does one that adopts no key
other_adds_none : (opening : State) (names : List Name) (name : Name) (k : KeysChange)
    → adopts k ≡ false → with_adopted_name opening names (change_of_name name k) ≡ names
other_adds_none opening names name (Key kvno count) h = refl
other_adds_none opening names name (Adopted kvno count) h = absurd (cc)
other_adds_none opening names name (Lifted kvno) h = refl
other_adds_none opening names name Removed h = refl

-- another adds its name
adopted_adds_one : (opening : State) (names : List Name) (name : Name) (k : KeysChange) → adopts k ≡ true
    → has_name (names_of opening) name ≡ false → has_name names name ≡ false
    → with_adopted_name opening names (change_of_name name k) ≡ insert_key name_cmp names name
adopted_adds_one opening names name (Key kvno count) h e f = absurd (cc)
adopted_adds_one opening names name (Adopted kvno count) h e f = rw (e, f) refl
adopted_adds_one opening names name (Lifted kvno) h e f = absurd (cc)
adopted_adds_one opening names name Removed h e f = absurd (cc)

or_true : (b : Bool) → (b || true) ≡ true
or_true true = refl
or_true false = refl

-- there is room for a row
abbrev HasRoom : KeysChange → Name → List Row → Type 0
HasRoom k of added = adopts k ≡ true → has_name (names_of_rows added) of ≡ false → length added < added_limit

room_test : (added : List Row) → length added < added_limit → nat_lt (length added) added_limit ≡ true
room_test added h = grind (arith, nat_tests)

-- what `added_at` is without a place
new_row : (kept : ℕ) (k : KeysChange) (of : Name) (added : List Row) → adopts k ≡ true → length added < added_limit
    → added_at kept k of None added ≡ with_row (row_after kept k (blank_row of)) added
new_row kept k of added e h = let room = room_test added h in rw (e, room) refl

no_row : (kept : ℕ) (k : KeysChange) (of : Name) (added : List Row) → adopts k ≡ false → added_at kept k of None added ≡ added
no_row kept k of added e = rw e refl

added_at_names : (opening : State) (kept : ℕ) (k : KeysChange) (of : Name) (added : List Row) (o : Option ℕ) → place_in added of ≡ o
    → has_name (names_of opening) of ≡ false → HasRoom k of added
    → names_of_rows (added_at kept k of o added) ≡ with_adopted_name opening (names_of_rows added) (change_of_name of k)
added_at_names opening kept k of added (Some n) is lacks room =
    let there : has_name (names_of_rows added) of ≡ true = numbered_there (names_of_rows added) of n (placed_number added of n is) in
    names_changed kept k n added
    ∙ sym (there_adds_none opening (names_of_rows added) of k (ap (λ b. has_name (names_of opening) of || b) there ∙ or_true (has_name (names_of opening) of)))
added_at_names opening kept k of added None is lacks room = at (adopts k) refl
  where
    missing : has_name (names_of_rows added) of ≡ false
    missing = unplaced_missing added of is

    at : (b : Bool) → adopts k ≡ b
        → names_of_rows (added_at kept k of None added) ≡ with_adopted_name opening (names_of_rows added) (change_of_name of k)
    at true e =
        ap names_of_rows (new_row kept k of added e (room e missing))
        ∙ (names_with_row (row_after kept k (blank_row of)) added missing
        ∙ sym (adopted_adds_one opening (names_of_rows added) of k e lacks missing))
    at false e =
        ap names_of_rows (no_row kept k of added e) ∙ sym (other_adds_none opening (names_of_rows added) of k e)

-- the room of the rows is that of their names
room_of : (opening : State) (list : List AcceptedChange) (k : KeysChange) (of : Name) (added : List Row)
    → names_of_rows added ≡ added_names opening list
    → (adopts k ≡ true → has_name (added_names opening list) of ≡ false → length (added_names opening list) < added_limit)
    → HasRoom k of added
room_of opening list k of added e room a missing =
    let less = room a (sym (ap (λ ns. has_name ns of) e) ∙ missing) in
    let long = sym (length_names added) ∙ ap (λ (ns : List Name). length ns) e in
    omega (arith, less, long)

pub added_names_after : (opening : State) (list : List AcceptedChange) (c : NumberedChange) (r : Rowed)
    → names_of_rows r.added ≡ added_names opening list → HasPlace opening list c
    → names_of_rows (rows_after c r).added ≡ added_names opening (list ++ named opening c ∷ [])
added_names_after opening list (Keys (Number n) k) r e has =
    let of : Name = name_at opening.principals n in
    let there : (has_name (names_of opening) of || has_name (added_names opening list) of) ≡ true =
    ap (λ b. b || has_name (added_names opening list) of) (numbered_there (names_of opening) of n has) in
    e ∙ sym (names_more opening list (change_of_name of k) ∙ there_adds_none opening (added_names opening list) of k there)
added_names_after opening list (Keys (Short s) k) r e has =
    let of : Name = short_name s in
    added_at_names opening r.kept k of r.added (place_in r.added of) refl has.0 (room_of opening list k of r.added e has.1)
    ∙ (ap (λ ns. with_adopted_name opening ns (change_of_name of k)) e ∙ sym (names_more opening list (change_of_name of k)))
added_names_after opening list (Count n) r e has = e ∙ sym (names_more opening list (named opening (Count n)))

-- ---- what the rows show

added_at_shows : (kept : ℕ) (k : KeysChange) (of : Name) (added : List Row) (name : Name) (o : Option ℕ) → place_in added of ≡ o
    → HasRoom k of added
    → shown_in (added_at kept k of o added) name ≡ changed_for kept k of name (shown_in added name)
added_at_shows kept k of added name (Some n) is room =
    ap (λ rows. shown_in rows name) (sym (append-nil (changed_at kept k n added)))
    ∙ (changed_shows kept k of added [] n name (placed_number added of n is)
    ∙ ap (λ rows. changed_for kept k of name (shown_in rows name)) (append-nil added))
added_at_shows kept k of added name None is room = at (adopts k) refl
  where
    missing : has_name (names_of_rows added) of ≡ false
    missing = unplaced_missing added of is

    at : (b : Bool) → adopts k ≡ b → shown_in (added_at kept k of None added) name ≡ changed_for kept k of name (shown_in added name)
    at true e =
        ap (λ rows. shown_in rows name) (new_row kept k of added e (room e missing)) ∙ added_shows kept k of added name missing
    at false e =
        ap (λ rows. shown_in rows name) (no_row kept k of added e) ∙ not_added_shows kept k of added name missing e

-- one change of this name's keys more
one_more : (opening : State) (list : List AcceptedChange) (kept : ℕ) (k : KeysChange) (of name : Name) (before after : Option Shown)
    → kept ≡ kept_count opening → before ≡ shown opening list name → after ≡ changed_for kept k of name before
    → after ≡ shown opening (list ++ change_of_name of k ∷ []) name
one_more opening list kept k of name before after e is made =
    made
    ∙ (ap (λ n. changed_for n k of name before) e
    ∙ (ap (λ s. changed_for (kept_count opening) k of name s) is
    ∙ sym (shown_more opening list (change_of_name of k) name ∙ shown_one (kept_count opening) of name k (shown opening list name))))

pub shows_after : (opening : State) (list : List AcceptedChange) (c : NumberedChange) (r : Rowed)
    → names_of_rows r.rows ≡ names_of opening → names_of_rows r.added ≡ added_names opening list
    → r.kept ≡ kept_count opening → HasPlace opening list c
    → (name : Name) → shown_in (all_rows r) name ≡ shown opening list name
    → shown_in (all_rows (rows_after c r)) name ≡ shown opening (list ++ named opening c ∷ []) name
shows_after opening list (Keys (Number n) k) r names added kept has name is =
    let of : Name = name_at opening.principals n in
    let here : IsNumberOf (names_of_rows r.rows) of n = subst (λ ns. IsNumberOf ns of n) (sym names) has in
    one_more opening list r.kept k of name (shown_in (all_rows r) name) (shown_in (changed_at r.kept k n r.rows ++ r.added) name)
    kept is (changed_shows r.kept k of r.rows r.added n name here)
shows_after opening list (Keys (Short s) k) r names added kept has name is =
    let of : Name = short_name s in
    let lacks : has_name (names_of_rows r.rows) of ≡ false = subst (λ ns. has_name ns of ≡ false) (sym names) has.0 in
    let more : List Row = added_at r.kept k of (place_in r.added of) r.added in
    one_more opening list r.kept k of name (shown_in (all_rows r) name) (shown_in (r.rows ++ more) name) kept is
    (shows_behind r.kept k of r.rows r.added more name lacks
    (added_at_shows r.kept k of r.added name (place_in r.added of) refl (room_of opening list k of r.added added has.1)))
shows_after opening list (Count n) r names added kept has name is = is ∙ sym (shown_more opening list (named opening (Count n)) name)

-- ---- counts

brings : (opening : State) (list : List AcceptedChange) (name : Name) (k : KeysChange) (policy : ℕ)
    → policy ≡ shown_count opening list → 1 ≤ policy → IsNextVersion opening list (change_of_name name k) → BringsPositive k
brings opening list name (Key kvno count) policy e h next = subst (λ m. 1 ≤ m) (e ∙ sym next.3) h
brings opening list name (Adopted kvno count) policy e h next = next.1
brings opening list name (Lifted kvno) policy e h next = tt
brings opening list name Removed policy e h next = tt

added_at_positive : (kept : ℕ) (k : KeysChange) (of : Name) (added : List Row) (o : Option ℕ)
    → BringsPositive k → All HasPositive added → All HasPositive (added_at kept k of o added)
added_at_positive kept k of added (Some n) h all = changed_positive kept k n added h all
added_at_positive kept k of added None h all =
    let row : Row = row_after kept k (blank_row of) in
    either_way (All HasPositive) (adopts k && nat_lt (length added) added_limit) (with_row row added) added
    (more_positive row added (blank_positive kept k of h) all) all

pub positive_after : (opening : State) (list : List AcceptedChange) (c : NumberedChange) (r : Rowed)
    → r.policy ≡ shown_count opening list
    → IsNextVersion opening list (named opening c) → IsPositive r → IsPositive (rows_after c r)
positive_after opening list (Keys (Number n) k) r policy next is =
    (is.0, changed_positive r.kept k n r.rows (brings opening list (name_at opening.principals n) k r.policy policy is.0 next) is.1, is.2)
positive_after opening list (Keys (Short s) k) r policy next is = (
  is.0,
  is.1,
  added_at_positive r.kept k (short_name s) r.added
      (place_in r.added (short_name s)) (brings opening list (short_name s) k r.policy policy is.0 next) is.2,
)
positive_after opening list (Count n) r policy next is =
    let old : 1 ≤ r.policy = is.0 in
    let count : 1 ≤ n = omega (arith, policy, next, old) in
    (count, is.1, is.2)
