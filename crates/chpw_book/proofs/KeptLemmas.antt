-- A list kept beside a table, and the names that have keys.
use Rattle.std.proofs.Common.{◌≡◌, ℕ, List, [], ◌∷◌, ◌++◌, Bool, true, false, ◌&&◌, ◌||◌, if◌then◌else◌, Option, Some, None}
use Rattle.std.proofs.Common.{◌⊎◌, inl, inr, ⊎_elim, refl, sym, ◌∙◌, ap, subst, rules}
use Rattle.std.specs.Prelude.{option_map, IsSome}
use Rattle.std.specs.List.{list_any}
use Rattle.chpw_rules.specs.declared.name.Name.{Name}
use Rattle.chpw_rules.specs.Names.{is_same_name}
use Rattle.chpw_table.specs.declared.times.Moment.{Moment}
use Rattle.chpw_table.specs.declared.change.AcceptedChange.{AcceptedChange}
use Rattle.chpw_table.specs.declared.change.AcceptedChange.TheVariants.{Key}
use Rattle.chpw_table.specs.declared.history.Event.{Event}
use Rattle.chpw_table.specs.declared.history.Event.TheVariants.{Ask, Raise, Update}
use Rattle.chpw_table.specs.declared.updating.KdcUpdate.{KdcUpdate}
use Rattle.chpw_table.specs.declared.updating.KdcUpdate.TheVariants.{Adopt, Lift, Remove}
use Rattle.chpw_table.specs.declared.updating.UpdateVerdict.{UpdateVerdict}
use Rattle.chpw_record.specs.declared.key.KeyRow.{KeyRow}
use Rattle.chpw_table.specs.Requests.{target_of}
use Rattle.chpw_table.specs.State.{State, keys_held, kept_count}
use Rattle.chpw_table.specs.Decision.{verdict}
use Rattle.chpw_table.specs.Step.{new_key}
use Rattle.chpw_table.specs.Agreement.{Agrees}
use Rattle.chpw_table.specs.Updates.{after_update, is_taken, key_in, keys_after as taken_keys, kind_of, name_in, with_newest}
use Rattle.chpw_table.specs.History.{IsJudged, is_accepted, step_event, step_entry, outcome}
use Rattle.chpw_table.specs.Versions.{change_in, change_of, change_by, entry_change, accepted}
use Rattle.chpw_table.proofs.AgreementLemmas.{same_new_key}
use Rattle.chpw_table.proofs.KeyLemmas.{keys_after, put}
use Rattle.chpw_table.proofs.UpdateLemmas.{keys_updated}
use Rattle.chpw_book.specs.ChangeLaws.{KeptListsGoOn, NamesAreKnown, adopts}
use Rattle.chpw_book.proofs.ChangeLemmas.{accepted_on}

-- states that agree make the same change of an event
pub same_change : (t s : State) (event : Event) → Agrees t s → change_by t event ≡ change_by s event
same_change t s (Ask o v) a = ap (λ (k : KeyRow). Key (change_of (target_of o).name k)) (same_new_key t s o a.count (a.principals (target_of o).name))
same_change t s (Raise count v) a = refl
same_change t s (Update u v) a = refl

pub kept_list : KeptListsGoOn
kept_list opening table history list e agrees is =
    let s : State = outcome opening history in
    ap (λ (xs : List AcceptedChange). xs ++ entry_change table e) is
    ∙ (ap (λ (c : AcceptedChange). accepted opening history ++ (if is_accepted e.event then c ∷ [] else [])) (same_change table s e.event agrees)
    ∙ sym (accepted_on opening history e))

known_put : (b : Bool) (kept : ℕ) (key : KeyRow) (held : Option (List KeyRow)) → IsSome (if b then option_map (put kept key) held else held) → IsSome held
known_put true kept key None h = h
known_put true kept key (Some keys) h = search rules
known_put false kept key held h = h

known_lift : (key : KeyRow) (held : Option (List KeyRow)) → IsSome (option_map (with_newest key) held) → IsSome held
known_lift key None h = h
known_lift key (Some keys) h = search rules

-- what a taken update leaves was there, or is adopted by it
known_taken : (s : State) (u : KdcUpdate) (name : Name) (held : Option (List KeyRow)) → is_same_name (name_in u) name ≡ true
    → IsSome (taken_keys (kind_of u) (kept_count s) (key_in held u) held) → IsSome held ⊎ (adopts name (change_in u) ≡ true)
known_taken s (Adopt n key) name held e h = inr e
known_taken s (Lift n kvno) name held e h = inl (known_lift (key_in held (Lift n kvno)) held h)
known_taken s (Remove n) name held e h = absurd (cc)

known_update : (s : State) (u : KdcUpdate) (name : Name) (held : Option (List KeyRow)) (b taken : Bool) → is_same_name (name_in u) name ≡ b
    → IsSome (if taken && b then taken_keys (kind_of u) (kept_count s) (key_in held u) held else held)
    → IsSome held ⊎ ((taken && adopts name (change_in u)) ≡ true)
known_update s u name held true true e h = known_taken s u name held e h
known_update s u name held false true e h = inl h
known_update s u name held b false e h = inl h

-- a name that has keys after an event had some before, or the event's change adopts one
known_event : (s : State) (now : Moment) (io : Bool) (event : Event) (name : Name) → IsJudged s now io event
    → IsSome (keys_held (step_event s now io event) name) → IsSome (keys_held s name) ⊎ ((is_accepted event && adopts name (change_by s event)) ≡ true)
known_event s now io (Ask o v) name legal h =
    inl (known_put _ (kept_count s) (new_key s o) (keys_held s name)
    (subst (λ (x : Option (List KeyRow)). IsSome x) (keys_after s (verdict s now o io) now o io name) h))
known_event s now io (Raise count v) name legal h = inl h
known_event s now io (Update u v) name legal h =
    let after : IsSome (keys_held (after_update v s now u io) name) =
    subst (λ (w : UpdateVerdict). IsSome (keys_held (after_update w s now u io) name)) (sym legal.verdict_is) h in
    known_update s u name (keys_held s name) (is_same_name (name_in u) name) (is_taken v) refl
    (subst (λ (x : Option (List KeyRow)). IsSome x) (keys_updated v s now u io name) after)

-- one of an event's changes and the others is such
first_adopts : (p : AcceptedChange → Bool) (b : Bool) (c : AcceptedChange) (cs : List AcceptedChange)
    → (b && p c) ≡ true → list_any p ((if b then c ∷ [] else []) ++ cs) ≡ true
first_adopts p true c cs h = ap (λ (x : Bool). x || list_any p cs) h
first_adopts p false c cs h = absurd (cc)

rest_adopts : (p : AcceptedChange → Bool) (b : Bool) (c : AcceptedChange) (cs : List AcceptedChange)
    → list_any p cs ≡ true → list_any p ((if b then c ∷ [] else []) ++ cs) ≡ true
rest_adopts p true c cs h = at (p c)
  where
    at : (x : Bool) → (x || list_any p cs) ≡ true
    at true = refl
    at false = h
rest_adopts p false c cs h = h

pub names_known : NamesAreKnown
names_known s [] name legal h = inl h
names_known s (e ∷ es) name legal h =
    let c : AcceptedChange = change_by s e.event in
    let more : List AcceptedChange = accepted (step_entry s e) es in
    ⊎_elim (λ (before : IsSome (keys_held (step_entry s e) name)).
    ⊎_elim (λ (had : IsSome (keys_held s name)). inl had)
    (λ (now : (is_accepted e.event && adopts name c) ≡ true). inr (first_adopts (adopts name) (is_accepted e.event) c more now))
    (known_event s e.now e.io_failed e.event name legal.0 before))
    (λ (since : list_any (adopts name) more ≡ true). inr (rest_adopts (adopts name) (is_accepted e.event) c more since))
    (names_known (step_entry s e) es name legal.1 h)
