-- What a change does to the rows, and what they show.
use Rattle.std.proofs.Common.{◌≡◌, ℕ, zero, suc, ◌<◌, ◌≤◌, List, [], ◌∷◌, ◌++◌, map, length}
use Rattle.std.proofs.Common.{get_or, set, take, Bool, true, false, cond, if◌then◌else◌, Option}
use Rattle.std.proofs.Common.{Some, None, find, nat_lt, refl, sym, ◌∙◌, ap, subst, arith, append-nil}
use Rattle.std.specs.Prelude.{option_map, position, slice_get, IfSome, All, ◌||◌}
use Rattle.std.specs.List.{position_or_len}
use Rattle.std.specs.Ordering.{is_lt}
use Rattle.std.proofs.lemmas.Bool.Decides.{nat_tests}
use Rattle.std.proofs.lemmas.Option.{slice_get_past}
use Rattle.std.proofs.lemmas.List.Folds.{find_at}
use Rattle.std.proofs.lemmas.List.Elements.{All-nil, All-cons, All-head, All-tail, All-take}
use Rattle.std.proofs.lemmas.List.Sums.{fold-append}
use Rattle.std.proofs.lemmas.List.Quantifiers.{position-Some}
use Rattle.chpw_rules.specs.declared.name.Name.{Name}
use Rattle.chpw_rules.specs.Names.{is_same_name, name_cmp}
use Rattle.chpw_table.specs.declared.table.Principal.{Principal}
use Rattle.chpw_table.specs.State.{State, kept_count}
use Rattle.chpw_table.specs.declared.change.AcceptedChange.{AcceptedChange}
use Rattle.chpw_table.specs.Versions.{Shown, shown, shown_after, shown_count, count_after, with_change, with_adopted, with_version}
use Rattle.chpw_table.proofs.NameLemmas.{is_same_name-Decides}
use Rattle.chpw_changelog.specs.declared.change.KeysChange.{KeysChange}
use Rattle.chpw_changelog.specs.declared.change.KeysChange.TheVariants.{Key, Adopted, Lifted, Removed}
use Rattle.chpw_changelog.specs.Changes.{name_at, key_change, change_of_name}
use Rattle.chpw_snapshots.specs.declared.keys_shown.KeysShown.{KeysShown}
use Rattle.chpw_snapshots.specs.declared.row.Row.{Row}
use Rattle.chpw_snapshots.specs.Rows.{names_of_rows, place_in, keys_after, row_after, changed_at, adopts, with_row}
use Rattle.chpw_snapshots.specs.Rows.{blank_row, counts_of, found_keys, keys_in, keys_as_shown, shown_in, HasPositive}
use Rattle.chpw_snapshots.specs.Preparing.{has_name}
use Rattle.chpw_snapshots.specs.Following.{IsNumberOf}

-- a write of a changed row is the change at its place
pub set-changed : (kept : ℕ) (c : KeysChange) (n : ℕ) (rows : List Row) (d r : Row)
    → n < length rows → r ≡ row_after kept c (get_or rows n d) → set rows n r ≡ changed_at kept c n rows
set-changed kept c n [] d r h e = absurd (omega arith)
set-changed kept c zero (x ∷ xs) d r h e = ap (λ w. w ∷ xs) e
set-changed kept c (suc n) (x ∷ xs) d r h e = ap (λ ws. x ∷ ws) (set-changed kept c n xs d r (omega (arith, h)) e)

-- and past the end there is none
pub past-changed : (kept : ℕ) (c : KeysChange) (n : ℕ) (rows : List Row) → length rows ≤ n → rows ≡ changed_at kept c n rows
past-changed kept c n [] h = refl
past-changed kept c zero (x ∷ xs) h = absurd (omega arith)
past-changed kept c (suc n) (x ∷ xs) h = ap (λ ws. x ∷ ws) (past-changed kept c n xs (omega (arith, h)))

-- names stay
pub names_changed : (kept : ℕ) (c : KeysChange) (n : ℕ) (rows : List Row) → names_of_rows (changed_at kept c n rows) ≡ names_of_rows rows
names_changed kept c n [] = refl
names_changed kept c zero (r ∷ rs) = refl
names_changed kept c (suc n) (r ∷ rs) = ap (λ ns. r.name ∷ ns) (names_changed kept c n rs)

-- and so does their number
pub length_changed : (kept : ℕ) (c : KeysChange) (n : ℕ) (rows : List Row) → length (changed_at kept c n rows) ≡ length rows
length_changed kept c n [] = refl
length_changed kept c zero (r ∷ rs) = refl
length_changed kept c (suc n) (r ∷ rs) = ap suc (length_changed kept c n rs)

-- ---- what a change shows

-- what a name shows after a change of its keys
abbrev pub shown_with : ℕ → KeysChange → Option Shown → Option Shown
shown_with kept (Key kvno count) row = option_map (with_change kept (key_change (record { parts = [] }) kvno count)) row
shown_with kept (Adopted kvno count) row = Some (with_adopted kept (key_change (record { parts = [] }) kvno count) row)
shown_with kept (Lifted kvno) row = option_map (with_version kvno) row
shown_with kept Removed row = None

-- what a name shows after a change of the keys of `of`
abbrev pub changed_for : ℕ → KeysChange → Name → Name → Option Shown → Option Shown
changed_for kept c of name row = if is_same_name of name then shown_with kept c row else row

pub shown_one : (kept : ℕ) (of name : Name) (c : KeysChange) (row : Option Shown)
    → shown_after kept name row (change_of_name of c) ≡ changed_for kept c of name row
shown_one kept of name (Key kvno count) row = refl
shown_one kept of name (Adopted kvno count) row = refl
shown_one kept of name (Lifted kvno) row = refl
shown_one kept of name Removed row = refl

-- the rows' keys change as what is shown of them
keys_one : (kept : ℕ) (c : KeysChange) (keys : Option KeysShown)
    → option_map keys_as_shown (keys_after kept c keys) ≡ shown_with kept c (option_map keys_as_shown keys)
keys_one kept (Key kvno count) None = refl
keys_one kept (Key kvno count) (Some keys) = refl
keys_one kept (Adopted kvno count) None = refl
keys_one kept (Adopted kvno count) (Some keys) = refl
keys_one kept (Lifted kvno) None = refl
keys_one kept (Lifted kvno) (Some keys) = refl
keys_one kept Removed None = refl
keys_one kept Removed (Some keys) = refl

-- a change that adopts no key shows nothing of a name that shows nothing
nothing_more : (kept : ℕ) (c : KeysChange) → adopts c ≡ false → shown_with kept c None ≡ None
nothing_more kept (Key kvno count) e = refl
nothing_more kept (Adopted kvno count) e = absurd (cc)
nothing_more kept (Lifted kvno) e = refl
nothing_more kept Removed e = refl

same_test : (a b name : Name) → is_same_name a b ≡ true → is_same_name a name ≡ is_same_name b name
same_test a b name h = ap (λ (n : Name). is_same_name n name) ((is_same_name-Decides a b).0 h)

other_test : (r of name : Name) → is_same_name r of ≡ false → is_same_name r name ≡ true → (b : Bool) → is_same_name of name ≡ b → b ≡ false
other_test r of name e f true g = sym ((is_same_name-Decides r of).1 ((is_same_name-Decides r name).0 f ∙ sym ((is_same_name-Decides of name).0 g))) ∙ e
other_test r of name e f false g = refl

at_head : (kept : ℕ) (c : KeysChange) (of : Name) (r : Row) (rs : List Row) (name : Name)
    → is_same_name r.name of ≡ true → (b : Bool) → is_same_name r.name name ≡ b
    → shown_in (row_after kept c r ∷ rs) name ≡ changed_for kept c of name (shown_in (r ∷ rs) name)
at_head kept c of r rs name e true f =
    let g : is_same_name of name ≡ true = sym (same_test r.name of name e) ∙ f in
    rw (f, g) (keys_one kept c r.shown)
at_head kept c of r rs name e false f = let g : is_same_name of name ≡ false = sym (same_test r.name of name e) ∙ f in rw (f, g) refl

-- a row of another name in front
behind : (kept : ℕ) (c : KeysChange) (of : Name) (r : Row) (xs ys : List Row) (name : Name) → is_same_name r.name of ≡ false
    → shown_in ys name ≡ changed_for kept c of name (shown_in xs name)
    → (b : Bool) → is_same_name r.name name ≡ b → shown_in (r ∷ ys) name ≡ changed_for kept c of name (shown_in (r ∷ xs) name)
behind kept c of r xs ys name e ih true f = let g : is_same_name of name ≡ false = other_test r.name of name e f (is_same_name of name) refl in rw (f, g) refl
behind kept c of r xs ys name e ih false f = rw f ih

-- the change shows at its name, and at no other
pub changed_shows : (kept : ℕ) (c : KeysChange) (of : Name) (rows more : List Row) (n : ℕ) (name : Name) → IsNumberOf (names_of_rows rows) of n
    → shown_in (changed_at kept c n rows ++ more) name ≡ changed_for kept c of name (shown_in (rows ++ more) name)
changed_shows kept c of [] more n name h = absurd h
changed_shows kept c of (r ∷ rs) more zero name h = at_head kept c of r (rs ++ more) name h (is_same_name r.name name) refl
changed_shows kept c of (r ∷ rs) more (suc n) name h =
    behind kept c of r (rs ++ more) (changed_at kept c n rs ++ more) name h.0 (changed_shows kept c of rs more n name h.1) (is_same_name r.name name) refl

pub either_false : (a b : Bool) → (a || b) ≡ false → (a ≡ false) × (b ≡ false)
either_false true b h = absurd (cc)
either_false false b h = (refl, h)

-- also after rows none of which has the name
pub shows_behind : (kept : ℕ) (c : KeysChange) (of : Name) (rows xs ys : List Row) (name : Name) → has_name (names_of_rows rows) of ≡ false
    → shown_in ys name ≡ changed_for kept c of name (shown_in xs name)
    → shown_in (rows ++ ys) name ≡ changed_for kept c of name (shown_in (rows ++ xs) name)
shows_behind kept c of [] xs ys name none h = h
shows_behind kept c of (r ∷ rs) xs ys name none h =
    let apart = either_false (is_same_name r.name of) (has_name (names_of_rows rs) of) none in
    behind kept c of r (rs ++ xs) (rs ++ ys) name apart.0 (shows_behind kept c of rs xs ys name apart.1 h) (is_same_name r.name name) refl

-- a name that is not there has no row
pub missing_unfound : (rows : List Row) (name : Name) → has_name (names_of_rows rows) name ≡ false → find (λ (r : Row). is_same_name r.name name) rows ≡ None
missing_unfound [] name h = refl
missing_unfound (r ∷ rs) name h =
    let apart = either_false (is_same_name r.name name) (has_name (names_of_rows rs) name) h in
    rw (apart.0) (missing_unfound rs name apart.1)

-- the row of a name that had none, in front of others
new_shows : (kept : ℕ) (c : KeysChange) (of : Name) (rows : List Row) (name : Name) → has_name (names_of_rows rows) of ≡ false
    → (b : Bool) → is_same_name of name ≡ b
    → shown_in (row_after kept c (blank_row of) ∷ rows) name ≡ changed_for kept c of name (shown_in rows name)
new_shows kept c of rows name none true e =
    let missing : has_name (names_of_rows rows) name ≡ false =
    subst (λ (n : Name). has_name (names_of_rows rows) n ≡ false) ((is_same_name-Decides of name).0 e) none in
    let nothing : shown_in rows name ≡ None = ap (λ (o : Option Row). option_map keys_as_shown (found_keys o)) (missing_unfound rows name missing) in
    rw e (keys_one kept c None ∙ ap (λ (s : Option Shown). shown_with kept c s) (sym nothing))
new_shows kept c of rows name none false e = rw e refl

none_shows : (kept : ℕ) (c : KeysChange) (of name : Name) → adopts c ≡ false → (b : Bool) → is_same_name of name ≡ b
    → None ≡ changed_for kept c of name None
none_shows kept c of name e true f = rw f (sym (nothing_more kept c e))
none_shows kept c of name e false f = rw f refl

-- what holds of both holds of the one that is chosen
pub either_way : {A : Type 0} (P : A → Type 0) (b : Bool) (x y : A) → P x → P y → P (if b then x else y)
either_way P true x y h k = h
either_way P false x y h k = k

-- a row more shows the key that is adopted
pub added_shows : (kept : ℕ) (c : KeysChange) (of : Name) (added : List Row) (name : Name) → has_name (names_of_rows added) of ≡ false
    → shown_in (with_row (row_after kept c (blank_row of)) added) name ≡ changed_for kept c of name (shown_in added name)
added_shows kept c of [] name none = new_shows kept c of [] name none (is_same_name of name) refl
added_shows kept c of (r ∷ rs) name none =
    let row : Row = row_after kept c (blank_row of) in
    let apart = either_false (is_same_name r.name of) (has_name (names_of_rows rs) of) none in
    either_way (λ (rows : List Row). shown_in rows name ≡ changed_for kept c of name (shown_in (r ∷ rs) name))
    (is_lt (name_cmp of r.name)) (row ∷ r ∷ rs) (r ∷ with_row row rs)
    (new_shows kept c of (r ∷ rs) name none (is_same_name of name) refl)
    (behind kept c of r rs (with_row row rs) name apart.0 (added_shows kept c of rs name apart.1) (is_same_name r.name name) refl)

-- and any other change of that name shows nothing
pub not_added_shows : (kept : ℕ) (c : KeysChange) (of : Name) (added : List Row) (name : Name) → has_name (names_of_rows added) of ≡ false
    → adopts c ≡ false → shown_in added name ≡ changed_for kept c of name (shown_in added name)
not_added_shows kept c of added name none e =
    ap (λ rows. shown_in rows name) (sym (append-nil added))
    ∙ (shows_behind kept c of added [] [] name none (none_shows kept c of name e (is_same_name of name) refl)
    ∙ ap (λ rows. changed_for kept c of name (shown_in rows name)) (append-nil added))

-- ---- counts stay positive

-- the count that a change brings, if it brings one, is at least 1
abbrev pub BringsPositive : KeysChange → Type 0
BringsPositive (Key kvno count) = 1 ≤ count
BringsPositive (Adopted kvno count) = 1 ≤ count
BringsPositive (Lifted kvno) = Unit {0}
BringsPositive Removed = Unit {0}

front_positive : (kept count : ℕ) (counts : List ℕ) → 1 ≤ count → All (λ n. 1 ≤ n) counts → All (λ n. 1 ≤ n) (take kept (count ∷ counts))
front_positive kept count counts h all = All-take (λ m. 1 ≤ m) kept (count ∷ counts) (All-cons (λ m. 1 ≤ m) count counts h all)

keys_positive : (kept : ℕ) (c : KeysChange) (keys : Option KeysShown) → BringsPositive c
    → All (λ n. 1 ≤ n) (counts_of keys) → All (λ n. 1 ≤ n) (counts_of (keys_after kept c keys))
keys_positive kept (Key kvno count) None h all = all
keys_positive kept (Key kvno count) (Some keys) h all = front_positive kept count keys.counts h all
keys_positive kept (Adopted kvno count) None h all = front_positive kept count [] h all
keys_positive kept (Adopted kvno count) (Some keys) h all = front_positive kept count keys.counts h all
keys_positive kept (Lifted kvno) None h all = all
keys_positive kept (Lifted kvno) (Some keys) h all = all
keys_positive kept Removed keys h all = All-nil (λ n. 1 ≤ n)

pub changed_positive : (kept : ℕ) (c : KeysChange) (n : ℕ) (rows : List Row) → BringsPositive c → All HasPositive rows → All HasPositive
    (changed_at kept c n rows)
changed_positive kept c n [] h all = All-nil HasPositive
changed_positive kept c zero (r ∷ rs) h all =
    All-cons HasPositive (row_after kept c r) rs (keys_positive kept c r.shown h (All-head HasPositive r rs all)) (All-tail HasPositive r rs all)
changed_positive kept c (suc n) (r ∷ rs) h all =
    All-cons HasPositive r (changed_at kept c n rs) (All-head HasPositive r rs all) (changed_positive kept c n rs h (All-tail HasPositive r rs all))

pub more_positive : (row : Row) (rows : List Row) → HasPositive row → All HasPositive rows → All HasPositive (with_row row rows)
more_positive row [] h all = All-cons HasPositive row [] h (All-nil HasPositive)
more_positive row (r ∷ rs) h all =
    either_way (All HasPositive) (is_lt (name_cmp row.name r.name)) (row ∷ r ∷ rs) (r ∷ with_row row rs)
    (All-cons HasPositive row (r ∷ rs) h all)
    (All-cons HasPositive r (with_row row rs) (All-head HasPositive r rs all) (more_positive row rs h (All-tail HasPositive r rs all)))

pub blank_positive : (kept : ℕ) (c : KeysChange) (name : Name) → BringsPositive c → HasPositive (row_after kept c (blank_row name))
blank_positive kept c name h = keys_positive kept c None h (All-nil (λ n. 1 ≤ n))

-- and so are those of the row that is found
pub found_positive : (is_it : Row → Bool) (rows : List Row) → All HasPositive rows → IfSome (find is_it rows) HasPositive
found_positive is_it [] all = tt
found_positive is_it (r ∷ rs) all = at (is_it r) refl (found_positive is_it rs (All-tail HasPositive r rs all))
  where
    at : (b : Bool) → is_it r ≡ b → IfSome (find is_it rs) HasPositive → IfSome (find is_it (r ∷ rs)) HasPositive
    at true e rest = rw e (All-head HasPositive r rs all)
    at false e rest = rw e rest

pub both_positive : (xs ys : List Row) → All HasPositive xs → All HasPositive ys → All HasPositive (xs ++ ys)
both_positive [] ys all more = more
both_positive (x ∷ xs) ys all more = All-cons HasPositive x (xs ++ ys) (All-head HasPositive x xs all) (both_positive xs ys (All-tail
    HasPositive x xs all) more)

-- what is found among them has positive counts
pub shown_positive : (rows added : List Row) (name : Name) (keys : KeysShown) → All HasPositive rows → All HasPositive added
    → keys_in (rows ++ added) name ≡ Some keys → All (λ n. 1 ≤ n) keys.counts
shown_positive rows added name keys all more h =
    at (find (λ (r : Row). is_same_name r.name name) (rows ++ added)) h
    (found_positive (λ (r : Row). is_same_name r.name name) (rows ++ added) (both_positive rows added all more))
  where
    at : (o : Option Row) → found_keys o ≡ Some keys → IfSome o HasPositive → All (λ n. 1 ≤ n) keys.counts
    at None e is = absurd (cc)
    at (Some r) e is = subst (λ (k : Option KeysShown). All (λ n. 1 ≤ n) (counts_of k)) e is

-- ---- names, places and numbers

-- the first place of a name is its number
place_number : (rows : List Row) (name : Name) (n : ℕ) (d : Row)
    → n < length rows → is_same_name (get_or rows n d).name name ≡ true
    → ((k : ℕ) → k < n → is_same_name (get_or rows k d).name name ≡ false)
    → IsNumberOf (names_of_rows rows) name n
place_number [] name n d h e f = absurd (omega arith)
place_number (r ∷ rs) name zero d h e f = e
place_number (r ∷ rs) name (suc n) d h e f = (f 0 (omega arith), place_number rs name n d (omega (arith, h)) e (λ k l. f (suc k) (omega (arith, l))))

pub at_number : (ps : List Principal) (name : Name) (n : ℕ) → IsNumberOf (map (λ (p : Principal). p.name) ps) name n → name_at ps n ≡ name
at_number [] name n h = absurd h
at_number (p ∷ ps) name zero h = (is_same_name-Decides p.name name).0 h
at_number (p ∷ ps) name (suc n) h = at_number ps name n h.1

-- the place that was found for a name is its number
pub placed_number : (rows : List Row) (name : Name) (n : ℕ) → place_in rows name ≡ Some n → IsNumberOf (names_of_rows rows) name n
placed_number rows name n found =
    let none : Row = record { name = name; shown = None } in
    let placed = position-Some (λ (r : Row). is_same_name r.name name) rows n none found in
    place_number rows name n none placed.0 placed.1 placed.2

-- a name that has a number is there
pub numbered_there : (names : List Name) (name : Name) (n : ℕ) → IsNumberOf names name n → has_name names name ≡ true
numbered_there [] name n h = absurd h
numbered_there (m ∷ ms) name zero h = rw h refl
numbered_there (m ∷ ms) name (suc n) h = rw (h.0) (numbered_there ms name n h.1)

-- what is found stands at the first place, if there is one
pub find_placed : (is_it : Row → Bool) (rows : List Row) (n : ℕ) → position is_it rows ≡ Some n → find is_it rows ≡ slice_get rows n
find_placed is_it rows n = at (nat_lt (position_or_len is_it rows) (length rows))
  where
    at : (b : Bool) → cond b (Some (position_or_len is_it rows)) None ≡ Some n → find is_it rows ≡ slice_get rows n
    at true e = let same : position_or_len is_it rows ≡ n = cc in find_at is_it rows ∙ ap (slice_get rows) same
    at false e = absurd (cc)

pub find_unplaced : (is_it : Row → Bool) (rows : List Row) → position is_it rows ≡ None → find is_it rows ≡ None
find_unplaced is_it rows = at (nat_lt (position_or_len is_it rows) (length rows)) refl
  where
    at : (b : Bool) → nat_lt (position_or_len is_it rows) (length rows) ≡ b → cond b (Some (position_or_len is_it rows)) None ≡ None → find is_it rows ≡ None
    at true e k = absurd (cc)
    at false e k =
        let past : length rows ≤ position_or_len is_it rows = grind (arith, nat_tests) in
        find_at is_it rows ∙ slice_get_past rows (position_or_len is_it rows) past

pub unfound_missing : (rows : List Row) (name : Name) → find (λ (r : Row). is_same_name r.name name) rows ≡ None → has_name (names_of_rows rows) name ≡ false
unfound_missing [] name h = refl
unfound_missing (r ∷ rs) name h = at (is_same_name r.name name) refl (unfound_missing rs name)
  where
    at : (b : Bool) → is_same_name r.name name ≡ b
        → (find (λ (q : Row). is_same_name q.name name) rs ≡ None → has_name (names_of_rows rs) name ≡ false)
        → has_name (names_of_rows (r ∷ rs)) name ≡ false
    at true e rest = let bad = rw e at h in absurd (cc (bad))
    at false e rest = rw e (rest (rw e at h))

-- what is found is a row of that name, which is there
pub found_there : (rows : List Row) (name : Name) (row : Row) → find (λ (r : Row). is_same_name r.name name) rows ≡ Some row
    → (row.name ≡ name) × (has_name (names_of_rows rows) name ≡ true)
found_there [] name row h = absurd (cc)
found_there (r ∷ rs) name row h = at (is_same_name r.name name) refl (found_there rs name row)
  where
    at : (b : Bool) → is_same_name r.name name ≡ b
        → (find (λ (q : Row). is_same_name q.name name) rs ≡ Some row → (row.name ≡ name) × (has_name (names_of_rows rs) name ≡ true))
        → (row.name ≡ name) × (has_name (names_of_rows (r ∷ rs)) name ≡ true)
    at true e rest =
        let is : Some r ≡ Some row = rw e at h in
        let same : r ≡ row = cc in
        (ap (λ (q : Row). q.name) (sym same) ∙ (is_same_name-Decides r.name name).0 e, rw e refl)
    at false e rest = let all = rest (rw e at h) in (all.0, rw e (all.1))

-- a name without a place is not there
pub unplaced_missing : (rows : List Row) (name : Name) → place_in rows name ≡ None → has_name (names_of_rows rows) name ≡ false
unplaced_missing rows name none = unfound_missing rows name (find_unplaced (λ (r : Row). is_same_name r.name name) rows none)

-- what is found among two lists: in the first, or else in the second
pub found_first : (is_it : Row → Bool) (xs ys : List Row) (r : Row) → find is_it xs ≡ Some r → find is_it (xs ++ ys) ≡ Some r
found_first is_it [] ys r h = absurd (cc)
found_first is_it (x ∷ xs) ys r h = at (is_it x) refl (found_first is_it xs ys r)
  where
    at : (b : Bool) → is_it x ≡ b → (find is_it xs ≡ Some r → find is_it (xs ++ ys) ≡ Some r) → find is_it (x ∷ (xs ++ ys)) ≡ Some r
    at true e rest = rw e (rw e at h)
    at false e rest = rw e (rest (rw e at h))

pub found_second : (is_it : Row → Bool) (xs ys : List Row) → find is_it xs ≡ None → find is_it (xs ++ ys) ≡ find is_it ys
found_second is_it [] ys h = refl
found_second is_it (x ∷ xs) ys h = at (is_it x) refl (found_second is_it xs ys)
  where
    at : (b : Bool) → is_it x ≡ b → (find is_it xs ≡ None → find is_it (xs ++ ys) ≡ find is_it ys) → find is_it (x ∷ (xs ++ ys)) ≡ find is_it ys
    at true e rest = let bad = rw e at h in absurd (cc (bad))
    at false e rest = rw e (rest (rw e at h))

-- ---- one change more

pub shown_more : (opening : State) (list : List AcceptedChange) (c : AcceptedChange) (name : Name)
    → shown opening (list ++ c ∷ []) name ≡ shown_after (kept_count opening) name (shown opening list name) c
shown_more opening list c name = fold-append _ _ list (c ∷ [])

pub count_more : (opening : State) (list : List AcceptedChange) (c : AcceptedChange)
    → shown_count opening (list ++ c ∷ []) ≡ count_after (shown_count opening list) c
count_more opening list c = fold-append _ _ list (c ∷ [])

pub none_mapped : {A B : Type 0} (f : A → B) (o : Option A) → option_map f o ≡ None → o ≡ None
none_mapped f None h = refl
none_mapped f (Some x) h = absurd (cc)
