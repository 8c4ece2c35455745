-- A history with an accepted change in it.
use Rattle.std.proofs.Common.{◌≡◌, ℕ, ◌<◌, ◌≤◌, List, [], ◌∷◌, ◌++◌, Bool, false, ◌&&◌, if◌then◌else◌, Option, Some, None}
use Rattle.std.proofs.Common.{is_none, unwrap_or, refl, sym, ◌∙◌, ap, subst, arith, map, take}
use Rattle.std.specs.Prelude.{option_map, Contains}
use Rattle.std.proofs.lemmas.List.{take-append-le}
use Rattle.krb_keys.specs.declared.etype.Etype.TheVariants as etype
use Rattle.krb_keys.specs.Keys.{s2k, bytes_of}
use Rattle.chpw_rules.specs.declared.name.Name.{Name}
use Rattle.chpw_rules.specs.Names.{is_same_name}
use Rattle.chpw_table.specs.declared.times.Moment.{Moment}
use Rattle.chpw_table.specs.declared.request.Opened.{Opened}
use Rattle.chpw_table.specs.declared.verdict.Verdict.{Verdict}
use Rattle.chpw_table.specs.declared.verdict.Verdict.TheVariants.{Done}
use Rattle.chpw_table.specs.declared.history.Event.{Event}
use Rattle.chpw_table.specs.declared.history.Entry.{Entry}
use Rattle.chpw_record.specs.declared.key.KeyRow.{KeyRow}
use Rattle.chpw_table.specs.Completing.{salt_of}
use Rattle.chpw_table.specs.Requests.{target_of}
use Rattle.chpw_table.specs.State.{State, Fixed, keys_held, kept_count}
use Rattle.chpw_table.specs.Verdicts.{is_done}
use Rattle.chpw_table.specs.Decision.{verdict}
use Rattle.chpw_table.specs.Wanted.{compared_keys}
use Rattle.chpw_table.specs.Step.{step, new_key}
use Rattle.chpw_table.specs.History.{IsDecided, IsJudged, IsLegal, step_event, step_entry, outcome}
use Rattle.chpw_table.specs.Laws.{keys_made, keys_or_none, unversioned, NeverRemoved}
use Rattle.chpw_table.proofs.KeyLemmas.{keys_after, held_at_verdict, put}
use Rattle.chpw_table.proofs.NameLemmas.{is_same_name-itself}
use Rattle.chpw_laws.specs.OldPasswords.{IsKeyOf, ComparesWith, new_keys_of, Changed, depth_of, key_of, after_change, end_of}
use Rattle.chpw_laws.specs.OldPasswords.{RefusedWhileItsKeyIsCompared, RefusedInLaterHistories, ComparedUntilDepth}
use Rattle.chpw_laws.specs.OldPasswords.{RefusedUntilDepth, ComparedNoLonger, DepthOthersBetween}
use Rattle.chpw_laws.proofs.KeptLemmas.{Alike, alike_is_same, IsKept, outcome_of_both, legal_parts, fixed_throughout, as_many_made}
use Rattle.chpw_laws.proofs.FrontLemmas.{among_first, later_compared, still_compared, StandsBehind, stands_behind, kept_unversioned}
use Rattle.chpw_laws.proofs.ReuseLemmas.{makes_its_keys, refused_while_compared}

-- ---- the change

given : {X : Type 0} (x : Option X) → is_none x ≡ false → (y : X) × (x ≡ Some y)
given None h = cc
given (Some y) h = (y, refl)

-- its target has the new key in front of what it had
changed_keys : (s : State) (now : Moment) (o : Opened) (io : Bool) → IsDecided s now o io Done
    → (old : List KeyRow) × (keys_held (step s now o io) (target_of o).name ≡ Some (take (kept_count s) (new_key s o ∷ old)))
changed_keys s now o io decided =
    let some = given (keys_held s (target_of o).name) (held_at_verdict s now o io (sym decided.verdict_is)) in
    (some.0, keys_after s (verdict s now o io) now o io (target_of o).name ∙ at (verdict s now o io) (sym decided.verdict_is) some.0 some.1)
  where
    at : (v : Verdict) → v ≡ Done → (old : List KeyRow) → keys_held s (target_of o).name ≡ Some old
        → (if is_done v && is_same_name (target_of o).name (target_of o).name
        then option_map (put (kept_count s) (new_key s o)) (keys_held s (target_of o).name) else keys_held s (target_of o).name)
        ≡ Some (take (kept_count s) (new_key s o ∷ old))
    at v done old e = rw (done, is_same_name-itself (target_of o).name, e) refl

-- ---- a history

module _ (h : Changed) where
  made : State
  made = step_entry (outcome h.opening h.before) h.change

  parts : IsJudged (outcome h.opening h.before) h.change.now h.change.io_failed h.change.event × IsLegal made h.later
  unfolding made
  parts = (legal_parts h.opening h.before (h.change ∷ h.later) h.legal).1

  decided : IsDecided (outcome h.opening h.before) h.change.now h.opened h.change.io_failed Done
  decided = subst (λ (event : Event). IsJudged (outcome h.opening h.before) h.change.now h.change.io_failed event) h.accepted parts.0

  is_made : made ≡ step (outcome h.opening h.before) h.change.now h.opened h.change.io_failed
  unfolding made
  is_made = ap (step_event (outcome h.opening h.before) h.change.now h.change.io_failed) h.accepted

  at_end : end_of h ≡ outcome made h.later
  unfolding made
  at_end = outcome_of_both h.opening h.before (h.change ∷ h.later)

  at_change : after_change h ≡ made
  unfolding made
  at_change = outcome_of_both h.opening h.before (h.change ∷ [])

  same_fixed : made.fixed ≡ h.opening.fixed
  same_fixed = ap (λ (s : State). s.fixed) is_made ∙ fixed_throughout h.opening h.before

  held : (old : List KeyRow) × (keys_or_none made h.name ≡ take (kept_count made) (key_of h ∷ old))
  held =
      let all = changed_keys (outcome h.opening h.before) h.change.now h.opened h.change.io_failed decided in (
        all.0,
        subst (λ (s : State). keys_or_none s h.name ≡ take (kept_count s) (key_of h ∷ all.0)) (sym is_made)
            (subst (λ (n : Name). keys_or_none (step (outcome h.opening h.before) h.change.now h.opened h.change.io_failed) n
            ≡ take (kept_count (outcome h.opening h.before)) (key_of h ∷ all.0)) h.asked.0
            (ap (λ (x : Option (List KeyRow)). unwrap_or x []) all.1)),
      )

  -- at the end, of what doesn't depend on the versions that change
  compared : (f : KeyRow → KeyRow) → NeverRemoved h.name h.later → IsKept f h.name h.later
      → Alike f (compared_keys (end_of h) h.name) (take (depth_of h) (keys_made made h.later h.name ++ key_of h ∷ held.0))
  compared f stays kept =
      ap (λ (s : State). map f (compared_keys s h.name)) at_end
      ∙ (later_compared f h.name made (key_of h) held.0 held.1 h.later parts.1 stays kept
      ∙ ap (λ (d : Fixed). map f (take d.policy.depth (keys_made made h.later h.name ++ key_of h ∷ held.0))) same_fixed)

  still : NeverRemoved h.name h.later → new_keys_of h.name h.later < depth_of h → ComparesWith (end_of h) h.name (key_of h)
  still stays low = subst (λ (s : State). ComparesWith s h.name (key_of h)) (sym at_end)
      (still_compared h.name made (key_of h) held.0 held.1 h.later parts.1 stays
      (subst (λ (d : Fixed). new_keys_of h.name h.later < d.policy.depth) (sym same_fixed) low))

  -- in the end there are the keys that came later, and after them the change's
  pub held_at_end : NeverRemoved h.name h.later → StandsBehind h.name (key_of h) (new_keys_of h.name h.later) (end_of h)
  held_at_end stays = subst (λ (s : State). StandsBehind h.name (key_of h) (new_keys_of h.name h.later) s) (sym at_end)
      (stands_behind h.name made (key_of h) held.0 held.1 h.later parts.1 stays)

  its_key : (s : State) → s.fixed.realm ≡ h.opening.fixed.realm → IsKeyOf s h.name h.password (key_of h)
  its_key s same =
      let realm : s.fixed.realm ≡ (outcome h.opening h.before).fixed.realm =
      same ∙ sym (ap (λ (f : Fixed). f.realm) (fixed_throughout h.opening h.before)) in
      let salt : List ℕ → List ℕ = λ r. salt_of (record { realm = r; name = h.name }) in
      subst (λ (r : List ℕ). (key_of h).aes256 ≡ bytes_of (s2k etype.Aes256 h.password (salt r) (key_of h).count)) (sym realm)
      (makes_its_keys (outcome h.opening h.before) h.change.now h.opened h.change.io_failed h.name h.password
      h.asked decided.derived (sym decided.verdict_is)).0

-- ---- the laws

pub refused_in_later_histories : RefusedInLaterHistories
refused_in_later_histories h s same inside = refused_while_compared s h.name h.password (key_of h) inside (its_key h s same)

pub refused_while_its_key_is_compared : RefusedWhileItsKeyIsCompared
refused_while_its_key_is_compared h inside =
    refused_in_later_histories h (end_of h) (ap (λ (f : Fixed). f.realm) (fixed_throughout h.opening (h.before ++ h.change ∷ h.later))) inside

pub compared_until_depth : ComparedUntilDepth
compared_until_depth h stays few = still h stays few

pub refused_until_depth : RefusedUntilDepth
refused_until_depth h stays few = refused_while_its_key_is_compared h (compared_until_depth h stays few)

-- where as many came later, nothing else is compared with
pub only_later : (h : Changed) (f : KeyRow → KeyRow) → NeverRemoved h.name h.later → IsKept f h.name h.later
    → depth_of h ≤ new_keys_of h.name h.later
    → Alike f (compared_keys (end_of h) h.name) (take (depth_of h) (keys_made (after_change h) h.later h.name))
only_later h f stays kept many =
    compared h f stays kept
    ∙ ap (map f) (take-append-le (depth_of h) (keys_made (made h) h.later h.name) (key_of h ∷ (held h).0)
    (subst (λ (n : ℕ). depth_of h ≤ n) (sym (as_many_made (made h) h.later h.name)) many)
    ∙ ap (λ (s : State). take (depth_of h) (keys_made s h.later h.name)) (sym (at_change h)))

pub compared_no_longer : ComparedNoLonger
compared_no_longer h stays many = only_later h unversioned stays (kept_unversioned h.name h.later) many

-- where no version changes, it is compared with as it was made
pub as_it_was_made : (h : Changed) → NeverRemoved h.name h.later → IsKept (λ k. k) h.name h.later
    → new_keys_of h.name h.later < depth_of h → Contains (compared_keys (end_of h) h.name) (key_of h)
as_it_was_made h stays kept few =
    subst (λ (keys : List KeyRow). Contains keys (key_of h)) (sym (alike_is_same _ _ (compared h (λ k. k) stays kept)))
    (among_first (depth_of h) (keys_made (made h) h.later h.name) (key_of h) (held h).0
    (subst (λ (n : ℕ). n < depth_of h) (sym (as_many_made (made h) h.later h.name)) few))

not_less : (a b : ℕ) → (a < b → ⊥) → b ≤ a
not_less a b h = grind arith

pub depth_others_between : DepthOthersBetween
depth_others_between h again o stays legal accepted asked = not_less (new_keys_of h.name h.later) (depth_of h)
    (λ few. (refused_until_depth h stays few again.now o again.io_failed asked again_decided.derived).0 (sym again_decided.verdict_is))
  where
    again_decided : IsDecided (end_of h) again.now o again.io_failed Done
    again_decided = subst (λ (event : Event). IsJudged (end_of h) again.now again.io_failed event) accepted
        (legal_parts h.opening (h.before ++ h.change ∷ h.later) (again ∷ []) legal).1.0
