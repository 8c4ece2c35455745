-- The newest keys of a name are those made or brought, and then the opening's.
use Rattle.std.proofs.Common.{◌≡◌, ℕ, zero, suc, ◌≤◌, List, [], ◌∷◌, ◌++◌, length, Bool, true, false, ◌&&◌}
use Rattle.std.proofs.Common.{if◌then◌else◌, Option, Some, None, is_none, unwrap_or}
use Rattle.std.proofs.Common.{refl, sym, ◌∙◌, ap, subst, arith, map, take, append_assoc}
use Rattle.std.specs.Prelude.{option_map, IfSome}
use Rattle.std.proofs.lemmas.List.{take_all, take-map, map-append, length-map, length-take}
use Rattle.chpw_rules.specs.declared.name.Name.{Name}
use Rattle.chpw_rules.specs.Names.{is_same_name}
use Rattle.chpw_record.specs.declared.key.KeyRow.{KeyRow}
use Rattle.chpw_table.specs.declared.times.Moment.{Moment}
use Rattle.chpw_table.specs.declared.request.Opened.{Opened}
use Rattle.chpw_table.specs.declared.verdict.Verdict.{Verdict}
use Rattle.chpw_table.specs.declared.verdict.Verdict.TheVariants.{Done}
use Rattle.chpw_table.specs.declared.updating.KdcUpdate.{KdcUpdate}
use Rattle.chpw_table.specs.declared.updating.KdcUpdate.TheVariants.{Adopt, Lift, Remove}
use Rattle.chpw_table.specs.declared.updating.UpdateVerdict.{UpdateVerdict}
use Rattle.chpw_table.specs.declared.history.Event.{Event}
use Rattle.chpw_table.specs.declared.history.Event.TheVariants.{Ask, Raise, Update}
use Rattle.chpw_table.specs.Requests.{target_of}
use Rattle.chpw_table.specs.State.{State, keys_held, kept_count}
use Rattle.chpw_table.specs.Verdicts.{is_done}
use Rattle.chpw_table.specs.Decision.{verdict}
use Rattle.chpw_table.specs.Step.{after, new_key}
use Rattle.chpw_table.specs.Updates.{after_update, is_taken, key_in, keys_after as taken_keys, kind_of, lifted_key, name_in, with_newest}
use Rattle.chpw_table.specs.History.{IsJudged, step_event, step_entry, outcome}
use Rattle.chpw_table.specs.Laws.{HoldsFew, KeepsNewest, NeverRemoved, adopted_keys, event_keys, keys_made, keys_or_none, removes, unversioned}
use Rattle.chpw_table.proofs.KeyLemmas.{held_at_verdict, keys_after, put, same_kept, take_front}
use Rattle.chpw_table.proofs.UpdateLemmas.{keys_updated, same_held}
use Rattle.chpw_table.proofs.BoolLemmas.{and_left, and_right}

-- the keys that are held, without their versions
abbrev plain : Option (List KeyRow) → List KeyRow
plain held = map unversioned (unwrap_or held [])

-- these in front of those, of which as many are kept
abbrev newest : ℕ → List KeyRow → Option (List KeyRow) → List KeyRow
newest kept made held = map unversioned (take kept (made ++ unwrap_or held []))

abbrev IsFew : ℕ → Option (List KeyRow) → Type 0
IsFew kept held = IfSome held (λ keys. length keys ≤ kept)

all_kept : (kept : ℕ) (held : Option (List KeyRow)) → IsFew kept held → plain held ≡ newest kept [] held
all_kept zero None few = refl
all_kept (suc n) None few = refl
all_kept kept (Some keys) few = ap (map unversioned) (sym (take_all kept keys few))

-- ---- a request

some_asked : (b : Bool) (held : Option (List KeyRow)) → (b ≡ true → is_none held ≡ false) → b ≡ true → held ≡ None → ⊥
some_asked b held h e f = let g : is_none held ≡ false = h e in let k : is_none held ≡ true = ap is_none f in cc

asked : (kept : ℕ) (key : KeyRow) (done same : Bool) (held : Option (List KeyRow)) → (done && same ≡ true → is_none held ≡ false) → IsFew kept held
    → plain (if done && same then option_map (put kept key) held else held) ≡ newest kept (if done && same then key ∷ [] else []) held
asked kept key done same held known few = at (done && same) held known few
  where
    at : (b : Bool) (held : Option (List KeyRow)) → (b ≡ true → is_none held ≡ false) → IsFew kept held
        → plain (if b then option_map (put kept key) held else held) ≡ newest kept (if b then key ∷ [] else []) held
    at true None k f = absurd (some_asked true None k refl refl)
    at true (Some keys) k f = refl
    at false held k f = all_kept kept held f

done_is : (v : Verdict) → is_done v ≡ true → v ≡ Done
done_is Done h = refl
done_is _ h = cc

known_target : (s : State) (now : Moment) (o : Opened) (io : Bool) (name : Name) (v : Verdict) → v ≡ verdict s now o io
    → is_done v && is_same_name (target_of o).name name ≡ true → is_none (keys_held s name) ≡ false
known_target s now o io name v e h =
    ap (λ (x : Option (List KeyRow)). is_none x) (sym (same_held s (target_of o).name name (and_right (is_done v) _ h)))
    ∙ held_at_verdict s now o io (sym e ∙ done_is v (and_left _ (is_same_name (target_of o).name name) h))

-- ---- an update

lifted : (kvno : ℕ) (keys : List KeyRow) → map unversioned (with_newest (lifted_key kvno keys) keys) ≡ map unversioned keys
lifted kvno [] = refl
lifted kvno (k ∷ ks) = refl

lift_kept : (kept kvno : ℕ) (held : Option (List KeyRow)) → IsFew kept held
    → plain (option_map (with_newest (lifted_key kvno (unwrap_or held []))) held) ≡ newest kept [] held
lift_kept kept kvno None few = all_kept kept None few
lift_kept kept kvno (Some keys) few = lifted kvno keys ∙ all_kept kept (Some keys) few

-- an update that applies to the name removes it
abbrev removed_in : KdcUpdate → Bool → Bool
removed_in (Adopt n key) b = false
removed_in (Lift n kvno) b = false
removed_in (Remove n) b = b

taken : (kept : ℕ) (u : KdcUpdate) (name : Name) (took same : Bool) (held : Option (List KeyRow)) → IsFew kept held
    → (removed_in u (took && same) ≡ false)
    → plain (if took && same then taken_keys (kind_of u) kept (key_in held u) held else held) ≡ newest kept (if took && same then adopted_keys u else []) held
taken kept u name took same held few stays = at (took && same) u few stays
  where
    at : (b : Bool) (u : KdcUpdate) → IsFew kept held → removed_in u b ≡ false
        → plain (if b then taken_keys (kind_of u) kept (key_in held u) held else held) ≡ newest kept (if b then adopted_keys u else []) held
    at true (Adopt n key) f e = refl
    at true (Lift n kvno) f e = lift_kept kept kvno held f
    at true (Remove n) f e = cc
    at false u f e = all_kept kept held f

removes_so : (u : KdcUpdate) (v : UpdateVerdict) (name : Name) → removes name (Update u v) ≡ removed_in u (is_taken v && is_same_name (name_in u) name)
removes_so (Adopt n key) v name = refl
removes_so (Lift n kvno) v name = refl
removes_so (Remove n) v name = refl

-- ---- one event

event_plain : (s : State) (now : Moment) (io : Bool) (event : Event) (name : Name) → IsJudged s now io event → HoldsFew s → removes name event ≡ false
    → plain (keys_held (step_event s now io event) name) ≡ newest (kept_count s) (event_keys s event name) (keys_held s name)
event_plain s now io (Ask o v) name legal few stays =
    subst (λ (w : Verdict). plain (keys_held (after w s now o io) name) ≡ newest (kept_count s) (event_keys s (Ask o v) name) (keys_held s
    name)) legal.verdict_is
    (ap plain (keys_after s v now o io name)
    ∙ asked (kept_count s) (new_key s o) (is_done v) (is_same_name (target_of o).name name) (keys_held s name)
    (known_target s now o io name v legal.verdict_is) (few name))
event_plain s now io (Raise count v) name legal few stays = all_kept (kept_count s) (keys_held s name) (few name)
event_plain s now io (Update u v) name legal few stays =
    subst (λ (w : UpdateVerdict). plain (keys_held (after_update w s now u io) name) ≡ newest (kept_count s) (event_keys s (Update u v)
    name) (keys_held s name)) legal.verdict_is
    (ap plain (keys_updated v s now u io name)
    ∙ taken (kept_count s) u name (is_taken v) (is_same_name (name_in u) name) (keys_held s name) (few name) (sym (removes_so u v name) ∙ stays))

-- ---- as few keys as are kept

few_put : (kept : ℕ) (key : KeyRow) (b : Bool) (held : Option (List KeyRow)) → IsFew kept held → IsFew kept (if b then option_map (put kept key) held else held)
few_put kept key true None few = few
few_put kept key true (Some keys) few = simp length-take (omega arith)
few_put kept key false held few = few

length_lifted : (key : KeyRow) (keys : List KeyRow) → length (with_newest key keys) ≡ length keys
length_lifted key [] = refl
length_lifted key (k ∷ ks) = refl

few_lifted : (kept : ℕ) (key : KeyRow) (held : Option (List KeyRow)) → IsFew kept held → IsFew kept (option_map (with_newest key) held)
few_lifted kept key None few = few
few_lifted kept key (Some keys) few = rw (length_lifted key keys) few

few_taken : (kept : ℕ) (u : KdcUpdate) (b : Bool) (held : Option (List KeyRow)) → IsFew kept held
    → IsFew kept (if b then taken_keys (kind_of u) kept (key_in held u) held else held)
few_taken kept (Adopt n key) true held few = simp length-take (omega arith)
few_taken kept (Lift n kvno) true held few = few_lifted kept (lifted_key kvno (unwrap_or held [])) held few
few_taken kept (Remove n) true held few = tt
few_taken kept u false held few = few

few_event : (s : State) (now : Moment) (io : Bool) (event : Event) → IsJudged s now io event → HoldsFew s
    → (name : Name) → IsFew (kept_count s) (keys_held (step_event s now io event) name)
few_event s now io (Ask o v) legal few name =
    subst (λ (w : Verdict). IsFew (kept_count s) (keys_held (after w s now o io) name)) legal.verdict_is
    (subst (λ (x : Option (List KeyRow)). IsFew (kept_count s) x) (sym (keys_after s v now o io name))
    (few_put (kept_count s) (new_key s o) (is_done v && is_same_name (target_of o).name name) (keys_held s name) (few name)))
few_event s now io (Raise count v) legal few name = few name
few_event s now io (Update u v) legal few name =
    subst (λ (w : UpdateVerdict). IsFew (kept_count s) (keys_held (after_update w s now u io) name)) legal.verdict_is
    (subst (λ (x : Option (List KeyRow)). IsFew (kept_count s) x) (sym (keys_updated v s now u io name))
    (few_taken (kept_count s) u (is_taken v && is_same_name (name_in u) name) (keys_held s name) (few name)))

pub few_after : (s : State) (now : Moment) (io : Bool) (event : Event) → IsJudged s now io event → HoldsFew s → HoldsFew (step_event s now io event)
few_after s now io event legal few name =
    subst (λ (k : ℕ). IsFew k (keys_held (step_event s now io event) name)) (sym (same_kept s now io event)) (few_event s now io event legal few name)

-- ---- a history

-- kept twice is kept once
twice : (kept : ℕ) (more made : List KeyRow) (x held : Option (List KeyRow)) → plain x ≡ newest kept made held
    → newest kept more x ≡ newest kept (more ++ made) held
twice kept more made x held h =
    let old : List KeyRow = unwrap_or held [] in
    sym (take-map unversioned kept (more ++ unwrap_or x []))
    ∙ (ap (take kept) (map-append unversioned more (unwrap_or x []))
    ∙ (ap (λ (ys : List KeyRow). take kept (map unversioned more ++ ys)) (h ∙ sym (take-map unversioned kept (made ++ old)))
    ∙ (take_front kept kept (map unversioned more) (map unversioned (made ++ old)) (omega arith)
    ∙ (ap (take kept) (sym (map-append unversioned more (made ++ old)))
    ∙ (take-map unversioned kept (more ++ (made ++ old))
    ∙ ap (λ (ys : List KeyRow). map unversioned (take kept ys)) (sym (append_assoc more made old)))))))

-- the law on the newest keys
pub keeps_newest : KeepsNewest
keeps_newest s [] name legal few stays = all_kept (kept_count s) (keys_held s name) (few name)
keeps_newest s (e ∷ es) name legal few stays =
    subst (λ (k : ℕ). plain (keys_held (outcome (step_entry s e) es) name) ≡ newest k (keys_made (step_entry s e) es name) (keys_held (step_entry s e) name))
    (same_kept s e.now e.io_failed e.event)
    (keeps_newest (step_entry s e) es name legal.1 (few_after s e.now e.io_failed e.event legal.0 few) stays.1)
    ∙ twice (kept_count s) (keys_made (step_entry s e) es name) (event_keys s e.event name) (keys_held (step_entry s e) name) (keys_held s name)
    (event_plain s e.now e.io_failed e.event name legal.0 few stays.0)
