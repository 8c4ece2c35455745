-- What an accepted event brings in is whole, as the newest key that the table then holds is.
use Rattle.std.proofs.Common.{◌≡◌, ℕ, suc, List, [], ◌∷◌, Bool, true, false, ◌&&◌, if◌then◌else◌, Option, Some, None, unwrap_or, refl, sym, ◌∙◌, ap, subst}
use Rattle.std.specs.Prelude.{option_map}
use Rattle.chpw_rules.specs.declared.name.Name.{Name}
use Rattle.chpw_rules.specs.Names.{is_same_name}
use Rattle.chpw_table.specs.declared.times.Moment.{Moment}
use Rattle.chpw_table.specs.declared.request.Opened.{Opened}
use Rattle.chpw_table.specs.declared.verdict.Verdict.{Verdict}
use Rattle.chpw_record.specs.declared.key.KeyRow.{KeyRow}
use Rattle.chpw_table.specs.declared.history.Event.TheVariants.{Ask, Update}
use Rattle.chpw_table.specs.declared.updating.KdcUpdate.{KdcUpdate}
use Rattle.chpw_table.specs.declared.updating.KdcUpdate.TheVariants.{Adopt, Lift, Remove}
use Rattle.chpw_table.specs.declared.updating.UpdateVerdict.{UpdateVerdict}
use Rattle.chpw_table.specs.State.{State, keys_held, kept_count}
use Rattle.chpw_table.specs.Requests.{target_of}
use Rattle.chpw_table.specs.Verdicts.{is_done}
use Rattle.chpw_table.specs.Step.{step, new_key}
use Rattle.chpw_table.specs.Updates.{has_newest, is_taken, key_in, keys_after as taken_keys, kind_of, name_in}
use Rattle.chpw_table.specs.Updates.{step_update, update_fits, update_verdict, IsUpdate}
use Rattle.chpw_table.specs.Agreement.{Agrees}
use Rattle.chpw_table.specs.History.{IsDecided}
use Rattle.chpw_table.proofs.DoneLemmas.{done_held}
use Rattle.chpw_table.proofs.KeyLemmas.{put, kept_some}
use Rattle.chpw_table.proofs.NameLemmas.{is_same_name-itself}
use Rattle.chpw_table.proofs.UpdateLemmas.{keys_updated, lifted_has_newest}
use Rattle.chpw_journal.specs.Runs.{IsWholeKey, BringsWhole}
use Rattle.chpw_journal.proofs.RunLemmas.{accepted_row, some_keys, after_decision}
use Rattle.chpw_book.specs.Wholeness.{FirstIsWhole, NewestIsWhole}

-- the first of the keys kept is the one that was put in front
first_put : (kept k : ℕ) (key : KeyRow) (keys : List KeyRow) → kept ≡ suc k → FirstIsWhole (put kept key keys) → IsWholeKey key
first_put kept k key keys e h = subst (λ (n : ℕ). FirstIsWhole (put n key keys)) e h

pub brings_whole : (s t : State) (now : Moment) (o : Opened) (io : Bool) (v : Verdict) → IsDecided s now o io v → Agrees t (step s now o io)
    → (is_done v ≡ true → NewestIsWhole (keys_held t (target_of o).name)) → is_done v ≡ true → BringsWhole s (Ask o v)
brings_whole s t now o io v d a newest h =
    let held = some_keys (keys_held s (target_of o).name) (done_held s o (accepted_row s now o io v d h)) in
    let both : (is_done v && is_same_name (target_of o).name (target_of o).name) ≡ true = rw (h, is_same_name-itself (target_of o).name) refl in
    let keys : keys_held t (target_of o).name ≡ Some (put (kept_count s) (new_key s o) held.0) =
    a.principals (target_of o).name
    ∙ (after_decision s now o io v d (target_of o).name
    ∙ (ap (λ (b : Bool). if b then option_map (put (kept_count s) (new_key s o)) (keys_held s (target_of o).name) else keys_held s (target_of o).name) both
    ∙ ap (λ (x : Option (List KeyRow)). option_map (put (kept_count s) (new_key s o)) x) held.1)) in
    let some = kept_some s.fixed.policy.depth in
    first_put (kept_count s) some.0 (new_key s o) held.0 some.1 (subst (λ (x : Option (List KeyRow)). NewestIsWhole x) keys (newest h))

-- ---- an update

abbrev is_lift : KdcUpdate → Bool
is_lift (Lift name kvno) = true
is_lift u = false

-- the key that an update has is whole, where the newest is that it leaves
taken_whole : (s : State) (u : KdcUpdate) (held : Option (List KeyRow)) (k : ℕ) → kept_count s ≡ suc k → (is_lift u ≡ true → has_newest held ≡ true)
    → NewestIsWhole (taken_keys (kind_of u) (kept_count s) (key_in held u) held) → IsWholeKey (key_in held u)
taken_whole s (Adopt name key) held k e some h = first_put (kept_count s) k key (unwrap_or held []) e h
taken_whole s (Lift name kvno) None k e some h = absurd (let no : false ≡ true = some refl in cc)
taken_whole s (Lift name kvno) (Some []) k e some h = absurd (let no : false ≡ true = some refl in cc)
taken_whole s (Lift name kvno) (Some (x ∷ xs)) k e some h = h
taken_whole s (Remove name) held k e some h = (refl, refl)

lifts_newest : (s : State) (u : KdcUpdate) (io : Bool) → is_taken (update_verdict s u io) ≡ true → is_lift u ≡ true → has_newest (keys_held
    s (name_in u)) ≡ true
lifts_newest s (Adopt name key) io h l = absurd (cc)
lifts_newest s (Lift name kvno) io h l = lifted_has_newest s name kvno io h
lifts_newest s (Remove name) io h l = absurd (cc)

pub update_brings_whole : (s t : State) (now : Moment) (u : KdcUpdate) (io : Bool) (v : UpdateVerdict) → IsUpdate s u io v → Agrees t (step_update s now u io)
    → update_fits u ≡ true → NewestIsWhole (keys_held t (name_in u)) → is_taken v ≡ true → BringsWhole s (Update u v)
update_brings_whole s t now u io v legal a fits newest h =
    let name : Name = name_in u in
    let held : Option (List KeyRow) = keys_held s name in
    let taken : is_taken (update_verdict s u io) ≡ true = ap is_taken (sym legal.verdict_is) ∙ h in
    let both : (is_taken (update_verdict s u io) && is_same_name name name) ≡ true = rw (taken, is_same_name-itself name) refl in
    let keys : keys_held t name ≡ taken_keys (kind_of u) (kept_count s) (key_in held u) held =
    a.principals name
    ∙ (keys_updated (update_verdict s u io) s now u io name
    ∙ ap (λ (b : Bool). if b then taken_keys (kind_of u) (kept_count s) (key_in held u) held else held) both) in
    let some = kept_some s.fixed.policy.depth in (
      fits,
      taken_whole s u held some.0 some.1 (lifts_newest s u io taken) (subst (λ (x : Option (List KeyRow)). NewestIsWhole x) keys newest),
    )
