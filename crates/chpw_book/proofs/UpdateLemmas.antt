-- What a taken update changes, and what waits to be published of it.
use Rattle.std.proofs.Common.{◌≡◌, ℕ, ◌≤◌, ◌<◌, List, Bool, true, false, not, ◌&&◌, ◌||◌, if◌then◌else◌}
use Rattle.std.proofs.Common.{Option, Some, None, is_none, refl, sym, ◌∙◌, ap, subst, arith}
use Rattle.std.specs.Prelude.{option_map, IfSome, nat_le}
use Rattle.std.proofs.lemmas.Bool.Decides.{nat_tests}
use Rattle.chpw_rules.specs.declared.name.Name.{Name}
use Rattle.chpw_rules.specs.Names.{is_name}
use Rattle.chpw_rules.specs.Limits.{is_in, kvnos, iteration_counts}
use Rattle.chpw_record.specs.declared.key.KeyRow.{KeyRow}
use Rattle.chpw_table.specs.declared.change.AcceptedChange.{AcceptedChange}
use Rattle.chpw_table.specs.declared.updating.KdcUpdate.{KdcUpdate}
use Rattle.chpw_table.specs.declared.updating.KdcUpdate.TheVariants.{Adopt, Lift, Remove}
use Rattle.chpw_table.specs.declared.updating.UpdateVerdict.{UpdateVerdict}
use Rattle.chpw_table.specs.declared.updating.UpdateVerdict.TheVariants as update
use Rattle.chpw_table.specs.State.{State, keys_held}
use Rattle.chpw_table.specs.Decision.{newest_kvno}
use Rattle.chpw_table.specs.Agreement.{Agrees}
use Rattle.chpw_table.specs.Updates.{name_in, has_newest, is_newer, is_taken, update_fits, update_row, update_verdict}
use Rattle.chpw_table.specs.Updating.{adds_principal, with_written}
use Rattle.chpw_table.specs.Versions.{Shown, change_in, shown, shown_keys}
use Rattle.chpw_table.proofs.BoolLemmas.{and_left, and_right}
use Rattle.chpw_snapshots.specs.Rising.{IsNextVersion}

-- ---- when it is taken

-- a test before Taken doesn't apply
past : (a b : Bool) (v w : UpdateVerdict) → is_taken v ≡ false → is_taken (if not a then v else if b then update.Broken else w) ≡ true → a ≡ true
past true b v w low h = refl
past false b v w low h = absurd (let x : true ≡ false = sym h ∙ low in cc)

-- and then the journal is whole
whole_row : (a b : Bool) (v : UpdateVerdict) → is_taken v ≡ false → is_taken (if not a then v else if b then update.Broken else update.Taken) ≡ true → b ≡ false
whole_row a false v low h = refl
whole_row true true v low h = absurd (cc)
whole_row false true v low h = absurd (let x : true ≡ false = sym h ∙ low in cc)

lift_newer : (a b c : Bool)
    → is_taken (if not a then update.NoSuchPrincipal else if not b then update.NotNewer else if c then update.Broken else update.Taken) ≡ true
    → (a ≡ true) × (b ≡ true) × (c ≡ false)
lift_newer true true false h = (refl, refl, refl)
lift_newer true true true h = absurd (cc)
lift_newer true false c h = absurd (cc)
lift_newer false b c h = absurd (cc)

removed_row : (a b : Bool) → is_taken (if a then update.NoSuchPrincipal else if b then update.Broken else update.Taken) ≡ true → (a ≡ false) × (b ≡ false)
removed_row false false h = (refl, refl)
removed_row false true h = absurd (cc)
removed_row true b h = absurd (cc)

taken_unbroken : (u : KdcUpdate) (held : Option (List KeyRow)) (broken : Bool) → is_taken (update_row u held broken) ≡ true → broken ≡ false
taken_unbroken (Adopt name key) held broken h = whole_row (is_newer key.kvno held) broken update.NotNewer refl h
taken_unbroken (Lift name kvno) held broken h = (lift_newer (has_newest held) (is_newer kvno held) broken h).2
taken_unbroken (Remove name) held broken h = (removed_row (is_none held) broken h).1

neither : (a b : Bool) → (a || b) ≡ false → a ≡ false
neither false b h = refl
neither true b h = cc

-- an update is taken where the journal is whole
pub taken_whole : (s : State) (u : KdcUpdate) (io : Bool) → is_taken (update_verdict s u io) ≡ true → s.broken ≡ false
taken_whole s u io h = neither s.broken io (taken_unbroken u (keys_held s (name_in u)) (s.broken || io) h)

-- states that agree judge it alike
pub same_update : (t s : State) (u : KdcUpdate) (io : Bool) → Agrees t s → update_verdict t u io ≡ update_verdict s u io
same_update t s u io a =
    ap (λ (held : Option (List KeyRow)). update_row u held (t.broken || io)) (a.principals (name_in u))
    ∙ ap (λ (b : Bool). update_row u (keys_held s (name_in u)) (b || io)) a.broken

pub same_adds : (t s : State) (u : KdcUpdate) → Agrees t s → adds_principal t u ≡ adds_principal s u
same_adds t s u a =
    ap (λ (v : UpdateVerdict). is_taken v && is_none (keys_held t (name_in u))) (same_update t s u false a)
    ∙ ap (λ (held : Option (List KeyRow)). is_taken (update_verdict s u false) && is_none held) (a.principals (name_in u))

-- ---- the change that it makes

fits_count : (name : Name) (key : KeyRow) → update_fits (Adopt name key) ≡ true → 1 ≤ key.count
fits_count name key h =
    let count : is_in iteration_counts key.count ≡ true =
    and_right (is_in kvnos key.kvno) (is_in iteration_counts key.count)
    (and_right (is_name name) (is_in kvnos key.kvno && is_in iteration_counts key.count) h) in
    let low : nat_le 1 key.count ≡ true = and_left (nat_le 1 key.count) (nat_le key.count 16777216) count in
    grind (arith, nat_tests)

newer_shown : (kvno : ℕ) (held : Option (List KeyRow)) (row : Option Shown) → row ≡ option_map shown_keys held
    → is_newer kvno held ≡ true → IfSome row (λ r. r.kvno < kvno)
newer_shown kvno None row is h = subst (λ (x : Option Shown). IfSome x (λ r. r.kvno < kvno)) (sym is) tt
newer_shown kvno (Some keys) row is h =
    let above : newest_kvno keys < kvno = grind (arith, nat_tests) in
    subst (λ (x : Option Shown). IfSome x (λ r. r.kvno < kvno)) (sym is) above

lift_shown : (kvno : ℕ) (held : Option (List KeyRow)) (row : Option Shown) → row ≡ option_map shown_keys held
    → has_newest held ≡ true → is_newer kvno held ≡ true → (r : Shown) × (row ≡ Some r) × (r.kvno < kvno)
lift_shown kvno None row is some h = absurd (cc)
lift_shown kvno (Some keys) row is some h = (shown_keys keys, is, grind (arith, nat_tests))

held_shown : (held : Option (List KeyRow)) (row : Option Shown) → row ≡ option_map shown_keys held → is_none held ≡ false → (r : Shown) × (row ≡ Some r)
held_shown None row is h = absurd (cc)
held_shown (Some keys) row is h = (shown_keys keys, is)

-- where it is taken, it may come after a list that shows what is held
pub update_next : (opening s : State) (list : List AcceptedChange) (u : KdcUpdate) (io : Bool)
    → ((name : Name) → shown opening list name ≡ option_map shown_keys (keys_held s name))
    → is_taken (update_verdict s u io) ≡ true → update_fits u ≡ true → IsNextVersion opening list (change_in u)
update_next opening s list (Adopt name key) io shows h fits =
    let newer : is_newer key.kvno (keys_held s name) ≡ true =
    past (is_newer key.kvno (keys_held s name)) (s.broken || io) update.NotNewer update.Taken refl h in (
      newer_shown key.kvno (keys_held s name) (shown opening list name) (shows name) newer,
      fits_count name key fits,
    )
update_next opening s list (Lift name kvno) io shows h fits =
    let tests = lift_newer (has_newest (keys_held s name)) (is_newer kvno (keys_held s name)) (s.broken || io) h in
    lift_shown kvno (keys_held s name) (shown opening list name) (shows name) tests.0 tests.1
update_next opening s list (Remove name) io shows h fits =
    held_shown (keys_held s name) (shown opening list name) (shows name) (removed_row (is_none (keys_held s name)) (s.broken || io) h).0

-- ---- what waits

-- the verdict accepts it unless its append failed
pub written_taken : (row : UpdateVerdict) (io : Bool) → is_taken (with_written io row) ≡ (is_taken row && not io)
written_taken row io = at (is_taken row) io refl
  where
    at : (b io : Bool) → is_taken row ≡ b → is_taken (if b && io then update.Broken else row) ≡ (b && not io)
    at true true e = refl
    at true false e = e
    at false io e = e
