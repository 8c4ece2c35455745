-- A name's keys after the entries of a history, if it has no more than are kept and isn't removed.
use Rattle.std.proofs.Common.{◌≡◌, ℕ, zero, suc, ◌+◌, ◌≤◌, max, List, [], ◌∷◌, ◌++◌, length, Bool, true, false, ◌&&◌, if◌then◌else◌, Option, Some, None}
use Rattle.std.proofs.Common.{refl, sym, ◌∙◌, ap, subst, arith, filter, map, take, append_assoc, length-append, is_none, unwrap_or}
use Rattle.std.specs.Prelude.{option_map}
use Rattle.std.proofs.lemmas.List.{take_all, take-map, length-take, length-map, map-id}
use Rattle.chpw_rules.specs.declared.name.Name.{Name}
use Rattle.chpw_rules.specs.Names.{is_same_name}
use Rattle.chpw_table.specs.declared.times.Moment.{Moment}
use Rattle.chpw_table.specs.declared.request.Opened.{Opened}
use Rattle.chpw_table.specs.declared.verdict.Verdict.{Verdict}
use Rattle.chpw_table.specs.declared.verdict.Verdict.TheVariants.{Done}
use Rattle.chpw_table.specs.declared.updating.KdcUpdate.{KdcUpdate}
use Rattle.chpw_table.specs.declared.updating.KdcUpdate.TheVariants.{Adopt, Lift, Remove}
use Rattle.chpw_table.specs.declared.updating.UpdateVerdict.{UpdateVerdict}
use Rattle.chpw_table.specs.declared.history.Event.{Event}
use Rattle.chpw_table.specs.declared.history.Event.TheVariants.{Ask, Raise, Update}
use Rattle.chpw_table.specs.declared.history.Entry.{Entry}
use Rattle.chpw_record.specs.declared.key.KeyRow.{KeyRow}
use Rattle.chpw_table.specs.Requests.{target_of}
use Rattle.chpw_table.specs.State.{State, Fixed, keys_held, kept_count}
use Rattle.chpw_table.specs.Verdicts.{is_done}
use Rattle.chpw_table.specs.Decision.{verdict}
use Rattle.chpw_table.specs.Step.{after, new_key}
use Rattle.chpw_table.specs.Updates.{after_update, with_newest, lifted_key, name_in, kind_of, key_in, keys_after as keys_after_update, is_taken}
use Rattle.chpw_table.specs.History.{IsJudged, IsLegal, step_event, step_entry, outcome}
use Rattle.chpw_table.specs.Laws.{event_keys, keys_made, keys_or_none, removes, NeverRemoved}
use Rattle.chpw_table.proofs.KeyLemmas.{keys_after, held_at_verdict, same_fixed, same_kept, put, take_front}
use Rattle.chpw_table.proofs.UpdateLemmas.{keys_updated, same_held}
use Rattle.chpw_laws.specs.OldPasswords.{brings_key, new_keys_of}

-- ---- histories in two parts

pub outcome_of_both : (s : State) (xs ys : List Entry) → outcome s (xs ++ ys) ≡ outcome (outcome s xs) ys
outcome_of_both s [] ys = refl
outcome_of_both s (x ∷ xs) ys = outcome_of_both (step_entry s x) xs ys

pub legal_parts : (s : State) (xs ys : List Entry) → IsLegal s (xs ++ ys) → IsLegal s xs × IsLegal (outcome s xs) ys
legal_parts s [] ys h = (tt, h)
legal_parts s (x ∷ xs) ys h = let rest = legal_parts (step_entry s x) xs ys h.1 in ((h.0, rest.0), rest.1)

pub fixed_throughout : (s : State) (es : List Entry) → (outcome s es).fixed ≡ s.fixed
fixed_throughout s [] = refl
fixed_throughout s (e ∷ es) = fixed_throughout (step_entry s e) es ∙ same_fixed s e.now e.io_failed e.event

pub kept_throughout : (s : State) (es : List Entry) → kept_count (outcome s es) ≡ kept_count s
kept_throughout s es = ap (λ (f : Fixed). max f.policy.depth 1) (fixed_throughout s es)

-- ---- how many keys came in front

one_if : (b : Bool) (key : KeyRow) → length (if b then key ∷ [] else []) ≡ (if b then 1 else 0)
one_if true key = refl
one_if false key = refl

none_if : (b : Bool) (keys : List KeyRow) → keys ≡ [] → length (if b then keys else []) ≡ 0
none_if true keys none = ap length none
none_if false keys none = refl

made_by_event : (s : State) (event : Event) (name : Name) → length (event_keys s event name) ≡ (if brings_key name event then 1 else 0)
made_by_event s (Ask o v) name = one_if (is_done v && is_same_name (target_of o).name name) (new_key s o)
made_by_event s (Raise count v) name = refl
made_by_event s (Update (Adopt adopted key) v) name = one_if (is_taken v && is_same_name adopted name) key
made_by_event s (Update (Lift lifted kvno) v) name = none_if (is_taken v && is_same_name lifted name) [] refl
made_by_event s (Update (Remove removed) v) name = none_if (is_taken v && is_same_name removed name) [] refl

pub as_many_made : (s : State) (es : List Entry) (name : Name) → length (keys_made s es name) ≡ new_keys_of name es
as_many_made s [] name = refl
as_many_made s (e ∷ es) name =
    length-append (keys_made (step_entry s e) es name) (event_keys s e.event name)
    ∙ (ap (λ (n : ℕ). n + length (event_keys s e.event name)) (as_many_made (step_entry s e) es name)
    ∙ (ap (λ (n : ℕ). new_keys_of name es + n) (made_by_event s e.event name) ∙ at (brings_key name e.event)))
  where
    at : (b : Bool) → new_keys_of name es + (if b then 1 else 0)
        ≡ length (if b then e ∷ filter (λ (x : Entry). brings_key name x.event) es else filter (λ (x : Entry). brings_key name x.event) es)
    at true = omega arith
    at false = omega arith

-- ---- the newest are kept

-- what of a key doesn't depend on its version
abbrev pub Forgets : (KeyRow → KeyRow) → Type 0
Forgets f = (k : KeyRow) (n : ℕ) → f (record k { kvno = n }) ≡ f k

-- the event takes a lift of this name
abbrev pub lifts : Name → Event → Bool
lifts name (Update (Lift lifted kvno) v) = is_taken v && is_same_name lifted name
lifts name _ = false

-- what is looked at doesn't depend on a version that these entries change
abbrev pub IsKept : (KeyRow → KeyRow) → Name → List Entry → Type 0
IsKept f name [] = Unit {0}
IsKept f name (e ∷ es) = (lifts name e.event ≡ true → Forgets f) × IsKept f name es

-- the same of each key, one by one
abbrev pub Alike : (KeyRow → KeyRow) → List KeyRow → List KeyRow → Type 0
Alike f xs ys = map f xs ≡ map f ys

pub alike_front : (f : KeyRow → KeyRow) (n : ℕ) (front : List KeyRow) (xs ys : List KeyRow) → Alike f xs ys → Alike f (take n (front ++ xs))
    (take n (front ++ ys))
alike_front f n [] xs ys h = sym (take-map f n xs) ∙ (ap (take n) h ∙ take-map f n ys)
alike_front f zero (k ∷ ks) xs ys h = refl
alike_front f (suc n) (k ∷ ks) xs ys h = ap (λ (zs : List KeyRow). f k ∷ zs) (alike_front f n ks xs ys h)

-- so the first of them are alike, too
pub alike_first : (f : KeyRow → KeyRow) (n : ℕ) (xs ys : List KeyRow) → Alike f xs ys → Alike f (take n xs) (take n ys)
alike_first f n xs ys h = alike_front f n [] xs ys h

pub alike_is_same : (xs ys : List KeyRow) → Alike (λ k. k) xs ys → xs ≡ ys
alike_is_same xs ys h = sym (map-id xs) ∙ (h ∙ map-id ys)

pub as_long : (f : KeyRow → KeyRow) (xs ys : List KeyRow) → Alike f xs ys → length xs ≡ length ys
as_long f xs ys h = sym (length-map xs f) ∙ (ap length h ∙ length-map ys f)

-- one more key, or none
one_made : (kept : ℕ) (key : KeyRow) (b : Bool) (held : Option (List KeyRow)) → length (unwrap_or held []) ≤ kept → (held ≡ None → b ≡ false)
    → unwrap_or (if b then option_map (put kept key) held else held) [] ≡ take kept ((if b then key ∷ [] else []) ++ unwrap_or held [])
one_made kept key true None few some = let x : true ≡ false = some refl in cc
one_made kept key true (Some keys) few some = refl
one_made kept key false held few some = sym (take_all kept (unwrap_or held []) few)

one_adopted : (kept : ℕ) (key : KeyRow) (b : Bool) (held : Option (List KeyRow)) → length (unwrap_or held []) ≤ kept
    → unwrap_or (if b then Some (take kept (key ∷ unwrap_or held [])) else held) [] ≡ take kept ((if b then key ∷ [] else []) ++ unwrap_or held [])
one_adopted kept key true held few = refl
one_adopted kept key false held few = sym (take_all kept (unwrap_or held []) few)

-- a lift changes no more of the newest key than its version
pub lift_alike : (f : KeyRow → KeyRow) (kvno : ℕ) (held : Option (List KeyRow)) → Forgets f
    → Alike f (unwrap_or (option_map (with_newest (lifted_key kvno (unwrap_or held []))) held) []) (unwrap_or held [])
lift_alike f kvno None forgets = refl
lift_alike f kvno (Some []) forgets = refl
lift_alike f kvno (Some (k ∷ ks)) forgets = ap (λ (x : KeyRow). x ∷ map f ks) (forgets k kvno)

one_lifted : (f : KeyRow → KeyRow) (kept kvno : ℕ) (b : Bool) (held : Option (List KeyRow)) → length (unwrap_or held []) ≤ kept
    → (b ≡ true → Forgets f)
    → Alike f (unwrap_or (if b then option_map (with_newest (lifted_key kvno (unwrap_or held []))) held else held) [])
    (take kept ((if b then [] else []) ++ unwrap_or held []))
one_lifted f kept kvno true held few forgets = lift_alike f kvno held (forgets refl) ∙ ap (map f) (sym (take_all kept (unwrap_or held []) few))
one_lifted f kept kvno false held few forgets = ap (map f) (sym (take_all kept (unwrap_or held []) few))

-- of a name that isn't removed
none_removed : (f : KeyRow → KeyRow) (kept : ℕ) (b : Bool) (held : Option (List KeyRow)) → length (unwrap_or held []) ≤ kept → b ≡ false
    → Alike f (unwrap_or (if b then None else held) []) (take kept ((if b then [] else []) ++ unwrap_or held []))
none_removed f kept true held few e = cc
none_removed f kept false held few e = ap (map f) (sym (take_all kept (unwrap_or held []) few))

-- a name whose password was changed is held
held_then : (s : State) (now : Moment) (o : Opened) (io : Bool) (name : Name) (v : Verdict) → v ≡ verdict s now o io
    → keys_held s name ≡ None → (is_done v && is_same_name (target_of o).name name) ≡ false
held_then s now o io name v judged none = at v (is_same_name (target_of o).name name) refl judged
  where
    apart : (x : Option (List KeyRow)) → x ≡ None → is_none x ≡ false → ⊥
    apart None e h = cc
    apart (Some keys) e h = cc

    at : (w : Verdict) (b : Bool) → is_same_name (target_of o).name name ≡ b → w ≡ verdict s now o io → (is_done w && b) ≡ false
    at Done true e h = absurd (apart (keys_held s (target_of o).name)
        (same_held s (target_of o).name name e ∙ none) (held_at_verdict s now o io (sym h)))
    at Done false e h = refl
    at w b e h = refl

module _ (f : KeyRow → KeyRow) (name : Name) where
  after_event : (s : State) (now : Moment) (io : Bool) (event : Event) → IsJudged s now io event → removes name event ≡ false
      → (lifts name event ≡ true → Forgets f) → length (keys_or_none s name) ≤ kept_count s
      → Alike f (keys_or_none (step_event s now io event) name) (take (kept_count s) (event_keys s event name ++ keys_or_none s name))
  after_event s now io (Ask o v) judged stays forgets few = ap (map f)
      (subst (λ (w : Verdict). keys_or_none (after w s now o io) name ≡ take (kept_count s) (event_keys s (Ask o v) name ++ keys_or_none s name))
      judged.verdict_is (ap (λ (x : Option (List KeyRow)). unwrap_or x []) (keys_after s v now o io name)
      ∙ one_made (kept_count s) (new_key s o) (is_done v && is_same_name (target_of o).name name) (keys_held s name) few
      (held_then s now o io name v judged.verdict_is)))
  after_event s now io (Raise count v) judged stays forgets few = ap (map f) (sym (take_all (kept_count s) (keys_or_none s name) few))
  after_event s now io (Update u v) judged stays forgets few =
      subst (λ (w : UpdateVerdict). Alike f (keys_or_none (after_update w s now u io) name) (take (kept_count s) (event_keys s (Update u v)
      name ++ keys_or_none s name)))
      judged.verdict_is (ap (λ (x : Option (List KeyRow)). map f (unwrap_or x [])) (keys_updated v s now u io name) ∙ at u stays forgets)
    where
      at : (u : KdcUpdate) → removes name (Update u v) ≡ false → (lifts name (Update u v) ≡ true → Forgets f)
          → Alike f (unwrap_or (if is_taken v && is_same_name (name_in u) name
          then keys_after_update (kind_of u) (kept_count s) (key_in (keys_held s name) u) (keys_held s name) else keys_held s name) [])
          (take (kept_count s) (event_keys s (Update u v) name ++ keys_or_none s name))
      at (Adopt adopted key) stays forgets = ap (map f) (one_adopted (kept_count s) key (is_taken v && is_same_name adopted name) (keys_held s name) few)
      at (Lift lifted kvno) stays forgets = one_lifted f (kept_count s) kvno (is_taken v && is_same_name lifted name) (keys_held s name) few forgets
      at (Remove removed) stays forgets = none_removed f (kept_count s) (is_taken v && is_same_name removed name) (keys_held s name) few stays

  -- after a whole history, of one name
  pub after_entries : (s : State) (es : List Entry) → IsLegal s es → NeverRemoved name es → IsKept f name es
      → length (keys_or_none s name) ≤ kept_count s
      → Alike f (keys_or_none (outcome s es) name) (take (kept_count s) (keys_made s es name ++ keys_or_none s name))
  after_entries s [] legal stays kept few = ap (map f) (sym (take_all (kept_count s) (keys_or_none s name) few))
  after_entries s (e ∷ es) legal stays kept few =
      let next : State = step_entry s e in
      let k : ℕ = kept_count s in
      let made : List KeyRow = event_keys s e.event name in
      let here : Alike f (keys_or_none next name) (take k (made ++ keys_or_none s name)) =
      after_event s e.now e.io_failed e.event legal.0 stays.0 kept.0 few in
      let same : kept_count next ≡ k = same_kept s e.now e.io_failed e.event in
      let few' : length (keys_or_none next name) ≤ kept_count next = rw same (few_of (keys_or_none next name) k (made ++ keys_or_none s name) here) in
      subst (λ (n : ℕ). Alike f (keys_or_none (outcome next es) name) (take n (keys_made next es name ++ keys_or_none next name))) same
      (after_entries next es legal.1 stays.1 kept.1 few')
      ∙ twice k (keys_made next es name) made (keys_or_none next name) (keys_or_none s name) here
    where
      few_of : (xs : List KeyRow) (k : ℕ) (ys : List KeyRow) → Alike f xs (take k ys) → length xs ≤ k
      few_of xs k ys h = let long : length xs ≡ length (take k ys) = as_long f xs (take k ys) h in rw (long, length-take k ys) (omega arith)

      twice : (k : ℕ) (more made now held : List KeyRow) → Alike f now (take k (made ++ held))
          → Alike f (take k (more ++ now)) (take k ((more ++ made) ++ held))
      twice k more made now held h = alike_front f k more now (take k (made ++ held)) h
          ∙ ap (map f) (take_front k k more (made ++ held) (omega arith) ∙ ap (take k) (sym (append_assoc more made held)))
