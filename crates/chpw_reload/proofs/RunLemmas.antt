-- Histories and reloads, one after the other.
use Rattle.std.proofs.Common.{◌≡◌, ℕ, ◌≤◌, List, [], ◌∷◌, ◌++◌, Bool, true, false, ◌&&◌, ◌||◌, if◌then◌else◌}
use Rattle.std.proofs.Common.{Option, Some, None, refl, sym, ◌∙◌, ap, subst, arith, inl, inr, rules}
use Rattle.std.specs.Prelude.{ℤ, IsSome, option_map, int_le}
use Rattle.std.specs.Int.{int_max}
use Rattle.std.specs.List.{list_any}
use Rattle.std.proofs.lemmas.Int.{ints, clamps}
use Rattle.chpw_rules.specs.declared.name.Name.{Name}
use Rattle.chpw_rules.specs.Names.{is_same_name}
use Rattle.chpw_table.specs.declared.times.Moment.{Moment}
use Rattle.chpw_table.specs.declared.request.Opened.{Opened}
use Rattle.chpw_table.specs.declared.request.RequestId.{RequestId}
use Rattle.chpw_table.specs.declared.verdict.Verdict.{Verdict}
use Rattle.chpw_table.specs.declared.verdict.Verdict.TheVariants.{Skew, Replay}
use Rattle.chpw_table.specs.declared.history.Event.{Event}
use Rattle.chpw_table.specs.declared.history.Event.TheVariants.{Ask, Raise, Update}
use Rattle.chpw_table.specs.declared.history.Entry.{Entry}
use Rattle.chpw_table.specs.declared.updating.KdcUpdate.{KdcUpdate}
use Rattle.chpw_table.specs.declared.updating.KdcUpdate.TheVariants as update
use Rattle.chpw_table.specs.declared.updating.UpdateVerdict.{UpdateVerdict}
use Rattle.chpw_record.specs.declared.key.KeyRow.{KeyRow}
use Rattle.chpw_table.specs.Requests.{id_of, is_same_id, target_of}
use Rattle.chpw_table.specs.State.{Fixed, State, keys_held, is_used, kept_count, new_count}
use Rattle.chpw_table.specs.Times.{is_far, is_later, clock_at}
use Rattle.chpw_table.specs.Agreement.{Agrees}
use Rattle.chpw_table.specs.Verdicts.{adds_id, is_done}
use Rattle.chpw_table.specs.Decision.{verdict, message_row}
use Rattle.chpw_table.specs.Step.{after, new_key}
use Rattle.chpw_table.specs.Laws.{NeverRemoved, removes}
use Rattle.chpw_table.specs.Updates.{after_update, is_taken, key_in, kind_of, name_in, keys_after as made_of}
use Rattle.chpw_table.specs.History.{step_event, step_entry, outcome, IsJudged, IsLegal}
use Rattle.chpw_table.proofs.AgreementLemmas.{agrees_itself, agrees_onward}
use Rattle.chpw_table.proofs.StepLemmas.{used_more, raise_keeps_keys}
use Rattle.chpw_table.proofs.KeyLemmas.{keys_after, put, same_fixed}
use Rattle.chpw_table.proofs.UpdateLemmas.{keys_updated}
use Rattle.chpw_journal.specs.Runs.{IsSound, AreWhole, Run, last_state}
use Rattle.chpw_journal.proofs.JoinedLemmas.{tables_may_open, histories_stay_sound, runs_are_last}
use Rattle.chpw_reload.specs.ReloadRuns.{GoesOn, AreHistories}
use Rattle.chpw_reload.specs.RunLaws.{RunsStaySound, UsedOverReloads, NamesOverReloads, CountOverReloads}
use Rattle.chpw_reload.specs.RunLaws.{QuietOverReloads, RunsBegin, RunsGoOn, RunsReload, InARowFollowOn}
use Rattle.chpw_reload.proofs.PartsLemmas.{reloaded_is_reload}
use Rattle.chpw_reload.proofs.ReloadLemmas.{ids_stay, keys_stay, count_stays, times_stay, reloads_are_sound}

-- ---- within the limits

sound_next : (s t : State) → IsSound s → GoesOn s t → IsSound t
sound_next s t sound (inl a) = (tables_may_open s [] t (record { sound = sound; each = tt; counts = tt }) a).sound
sound_next s t sound (inr h) = reloads_are_sound h.0 h.1 s t h.2

pub runs_stay_sound : RunsStaySound
runs_stay_sound s [] sound h = sound
runs_stay_sound s (r ∷ rs) sound h =
    runs_stay_sound (outcome r.opening r.history) rs (histories_stay_sound r.opening r.history (sound_next s r.opening sound h.0) h.1 h.2) h.3

-- ---- used ids

-- an id that is not too old later is not so before, and is used later where it is used before
pub record StaysUsed (s t : State) (id : RequestId) : Type 0 where
  pub young : is_later t.clock id.ctime ≡ false → is_later s.clock id.ctime ≡ false
  pub used : is_later t.clock id.ctime ≡ false → is_used s id ≡ true → is_used t id ≡ true

used_itself : (s : State) (id : RequestId) → StaysUsed s s id
used_itself s id = record { young = λ y. y; used = λ y u. u }

used_on : (s t u : State) (id : RequestId) → StaysUsed s t id → StaysUsed t u id → StaysUsed s u id
used_on s t u id a b = record {
  young = λ y. a.young (b.young y);
  used = λ y k. b.used y (a.used (b.young y) k);
}

still_young : (clock now ctime : ℤ) → is_later (int_max clock now) ctime ≡ false → is_later clock ctime ≡ false
still_young clock now ctime h = grind (arith, ints, clamps)

used_after : (s : State) (v : Verdict) (now : Moment) (o : Opened) (io : Bool) (id : RequestId) → is_used s id ≡ true → is_used (after v s now o io) id ≡ true
used_after s v now o io id h = elim (adds_id v) as (λ b. list_any (λ (x : RequestId). is_same_id x id) (if b then s.used ++ id_of o ∷ [] else s.used) ≡ true) [
  | true ↦ used_more s.used (id_of o) id ∙ ap (λ b. b || is_same_id (id_of o) id) h
  | false ↦ h
]

used_event : (s : State) (now : Moment) (io : Bool) (event : Event) (id : RequestId) → StaysUsed s (step_event s now io event) id
used_event s now io (Ask o v) id = record {
  young = λ y. still_young s.clock now.seconds id.ctime y;
  used = λ y u. used_after s (verdict s now o io) now o io id u;
}
used_event s now io (Raise count v) id = record { young = λ y. still_young s.clock now.seconds id.ctime y; used = λ y u. u }
used_event s now io (Update u v) id = record { young = λ y. still_young s.clock now.seconds id.ctime y; used = λ y k. k }

used_history : (s : State) (es : List Entry) (id : RequestId) → StaysUsed s (outcome s es) id
used_history s [] id = used_itself s id
used_history s (e ∷ es) id =
    used_on s (step_entry s e) (outcome (step_entry s e) es) id (used_event s e.now e.io_failed e.event id) (used_history (step_entry s e) es id)

used_next : (s t : State) (id : RequestId) → GoesOn s t → StaysUsed s t id
used_next s t id (inl a) = record {
  young = λ y. ap (λ (c : ℤ). is_later c id.ctime) (sym a.clock) ∙ y;
  used = λ y u. a.ids id (ap (λ (c : ℤ). is_later c id.ctime) (sym a.clock) ∙ y) ∙ u;
}
used_next s t id (inr h) =
    let clock : t.clock ≡ s.clock = (times_stay h.0 h.1 s t h.2).1 in
    record {
      young = λ y. ap (λ (c : ℤ). is_later c id.ctime) (sym clock) ∙ y;
      used = λ y u. ids_stay h.0 h.1 s t h.2 id (ap (λ (c : ℤ). is_later c id.ctime) (sym clock) ∙ y) ∙ u;
    }

used_runs : (s : State) (runs : List Run) (id : RequestId) → AreHistories s runs → StaysUsed s (last_state s runs) id
used_runs s [] id h = used_itself s id
used_runs s (r ∷ rs) id h =
    let last : State = last_state (outcome r.opening r.history) rs in
    used_on s r.opening last id (used_next s r.opening id h.0)
    (used_on r.opening (outcome r.opening r.history) last id (used_history r.opening r.history id) (used_runs (outcome r.opening r.history) rs id h.3))

old_is_far : (clock now ctime : ℤ) → is_later clock ctime ≡ true → is_far (int_max clock now) ctime ≡ true
old_is_far clock now ctime h = grind (arith, ints, clamps)

skewed : (a b : Bool) (v : Verdict) → a ≡ true → adds_id (if a || b then Skew else v) ≡ false
skewed true b v h = refl
skewed false b v h = absurd (cc)

replayed : (a b : Bool) (v : Verdict) → b ≡ true → adds_id (if a then Skew else if b then Replay else v) ≡ false
replayed true b v h = refl
replayed false true v h = refl
replayed false false v h = absurd (cc)

pub used_over_reloads : UsedOverReloads
used_over_reloads s runs now o io h used =
    let last : State = last_state s runs in
    at last (used_runs s runs (id_of o) h) (is_later last.clock o.ctime) refl
  where
    at : (last : State) → StaysUsed s last (id_of o) → (b : Bool) → is_later last.clock o.ctime ≡ b → adds_id (verdict last now o io) ≡ false
    at last stays true e =
        skewed (is_far (clock_at last now) o.ctime) (int_le o.ctime last.fixed.quiet_until)
        (if is_used last (id_of o) then Replay else message_row last (clock_at last now) o io)
        (old_is_far last.clock now.seconds o.ctime e)
    at last stays false e =
        replayed (is_far (clock_at last now) o.ctime || int_le o.ctime last.fixed.quiet_until)
        (is_used last (id_of o)) (message_row last (clock_at last now) o io)
        (stays.used e used)

-- ---- names

put_some : (b : Bool) (kept : ℕ) (key : KeyRow) (x : Option (List KeyRow)) → IsSome x → IsSome (if b then option_map (put kept key) x else x)
put_some true kept key None h = h
put_some true kept key (Some keys) h = h
put_some false kept key x h = h

-- what an update makes of a name's keys, unless it removes the name
abbrev removed_in : KdcUpdate → Bool → Bool
removed_in (update.Adopt n key) b = false
removed_in (update.Lift n kvno) b = false
removed_in (update.Remove n) b = b

taken_some : (u : KdcUpdate) (b : Bool) (kept : ℕ) (x : Option (List KeyRow)) → removed_in u b ≡ false → IsSome x
    → IsSome (if b then made_of (kind_of u) kept (key_in x u) x else x)
taken_some u false kept x stays h = h
taken_some (update.Adopt n key) true kept x stays h = search rules
taken_some (update.Lift n kvno) true kept None stays h = h
taken_some (update.Lift n kvno) true kept (Some keys) stays h = search rules
taken_some (update.Remove n) true kept x stays h = absurd (cc)

removes_so : (u : KdcUpdate) (v : UpdateVerdict) (name : Name) → removes name (Update u v) ≡ removed_in u (is_taken v && is_same_name (name_in u) name)
removes_so (update.Adopt n key) v name = refl
removes_so (update.Lift n kvno) v name = refl
removes_so (update.Remove n) v name = refl

name_event : (s : State) (now : Moment) (io : Bool) (event : Event) (name : Name) → IsJudged s now io event → removes name event ≡ false
    → IsSome (keys_held s name) → IsSome (keys_held (step_event s now io event) name)
name_event s now io (Ask o v) name d stays h =
    subst IsSome (sym (keys_after s (verdict s now o io) now o io name))
    (put_some (is_done (verdict s now o io) && is_same_name (target_of o).name name) (kept_count s) (new_key s o) (keys_held s name) h)
name_event s now io (Raise count v) name d stays h = h
name_event s now io (Update u v) name d stays h =
    subst (λ (w : UpdateVerdict). IsSome (keys_held (after_update w s now u io) name)) d.verdict_is
    (subst IsSome (sym (keys_updated v s now u io name))
    (taken_some u (is_taken v && is_same_name (name_in u) name) (kept_count s) (keys_held s name) (sym (removes_so u v name) ∙ stays) h))

name_history : (s : State) (es : List Entry) (name : Name) → IsLegal s es → NeverRemoved name es
    → IsSome (keys_held s name) → IsSome (keys_held (outcome s es) name)
name_history s [] name legal stays h = h
name_history s (e ∷ es) name legal stays h =
    name_history (step_entry s e) es name legal.1 stays.1 (name_event s e.now e.io_failed e.event name legal.0 stays.0 h)

some_is : (x : Option (List KeyRow)) → IsSome x → (keys : List KeyRow) × (x ≡ Some keys)
some_is None h = absurd (cc)
some_is (Some keys) h = (keys, refl)

name_next : (s t : State) (name : Name) → GoesOn s t → IsSome (keys_held s name) → IsSome (keys_held t name)
name_next s t name (inl a) h = subst IsSome (sym (a.principals name)) h
name_next s t name (inr g) h =
    let was = some_is (keys_held s name) h in
    let now = keys_stay g.0 g.1 s t g.2 name was.0 was.1 in
    subst IsSome (sym now.1) (search rules)

pub names_over_reloads : NamesOverReloads
names_over_reloads s [] name h stays some = some
names_over_reloads s (r ∷ rs) name h stays some =
    names_over_reloads (outcome r.opening r.history) rs name h.3 stays.1
    (name_history r.opening r.history name h.1 stays.0 (name_next s r.opening name h.0 some))

-- ---- the count of new keys

count_event : (s : State) (now : Moment) (io : Bool) (event : Event) → new_count s ≤ new_count (step_event s now io event)
count_event s now io (Ask o v) = omega arith
count_event s now io (Raise count v) = (raise_keeps_keys s now count io).2
count_event s now io (Update u v) = omega arith

count_history : (s : State) (es : List Entry) → new_count s ≤ new_count (outcome s es)
count_history s [] = omega arith
count_history s (e ∷ es) =
    let a : new_count s ≤ new_count (step_entry s e) = count_event s e.now e.io_failed e.event in
    let b : new_count (step_entry s e) ≤ new_count (outcome (step_entry s e) es) = count_history (step_entry s e) es in
    omega (arith, a, b)

count_next : (s t : State) → GoesOn s t → new_count s ≤ new_count t
count_next s t (inl a) = let e : new_count t ≡ new_count s = a.count in omega (arith, e)
count_next s t (inr h) = count_stays h.0 h.1 s t h.2

pub count_over_reloads : CountOverReloads
count_over_reloads s [] h = omega arith
count_over_reloads s (r ∷ rs) h =
    let a : new_count s ≤ new_count r.opening = count_next s r.opening h.0 in
    let b : new_count r.opening ≤ new_count (outcome r.opening r.history) = count_history r.opening r.history in
    let c : new_count (outcome r.opening r.history) ≤ new_count (last_state (outcome r.opening r.history) rs) =
    count_over_reloads (outcome r.opening r.history) rs h.3 in
    omega (arith, a, b, c)

-- ---- the quiet time and the realm

fixed_history : (s : State) (es : List Entry) → (outcome s es).fixed ≡ s.fixed
fixed_history s [] = refl
fixed_history s (e ∷ es) = fixed_history (step_entry s e) es ∙ same_fixed s e.now e.io_failed e.event

quiet_next : (s t : State) → GoesOn s t → (t.fixed.quiet_until ≡ s.fixed.quiet_until) × (t.fixed.realm ≡ s.fixed.realm)
quiet_next s t (inl a) = (ap (λ (f : Fixed). f.quiet_until) a.fixed, ap (λ (f : Fixed). f.realm) a.fixed)
quiet_next s t (inr h) = let times = times_stay h.0 h.1 s t h.2 in (times.0, times.2)

pub quiet_over_reloads : QuietOverReloads
quiet_over_reloads s [] h = (refl, refl)
quiet_over_reloads s (r ∷ rs) h =
    let a = quiet_next s r.opening h.0 in
    let b : (outcome r.opening r.history).fixed ≡ r.opening.fixed = fixed_history r.opening r.history in
    let c = quiet_over_reloads (outcome r.opening r.history) rs h.3 in (
      c.0 ∙ (ap (λ (f : Fixed). f.quiet_until) b ∙ a.0),
      c.1 ∙ (ap (λ (f : Fixed). f.realm) b ∙ a.1),
    )

-- ---- one history more

pub runs_begin : RunsBegin
runs_begin opening table h = record { history = h.history; more = []; follow = (inl (agrees_itself opening), h.legal, h.whole, tt); leaves = h.agrees }

-- what goes on from a table goes on from each state that the table agrees with
goes_on_from : (t s next : State) → Agrees t s → GoesOn t next → GoesOn s next
goes_on_from t s next same (inl a) = inl (agrees_onward next t s a same)
goes_on_from t s next same (inr h) = inr (
  h.0,
  h.1,
  record {
    closed = h.2.closed;
    renewed = h.2.renewed;
    is_left = agrees_onward h.2.closed t s h.2.is_left same;
    is_renewed = h.2.is_renewed;
    may = h.2.may;
    opens = h.2.opens;
  },
)

histories_more : (s : State) (runs : List Run) (r : Run) → AreHistories s runs → GoesOn (last_state s runs) r.opening
    → IsLegal r.opening r.history → AreWhole r.opening r.history → AreHistories s (runs ++ r ∷ [])
histories_more s [] r h goes legal whole = (goes, legal, whole, tt)
histories_more s (q ∷ qs) r h goes legal whole = (h.0, h.1, h.2, histories_more (outcome q.opening q.history) qs r h.3 goes legal whole)

pub runs_go_on : RunsGoOn
runs_go_on opening next table last h goes g =
    let first : Run = record { opening = opening; history = h.history } in
    let r : Run = record { opening = next; history = g.history } in
    record {
      history = h.history;
      more = h.more ++ r ∷ [];
      follow = histories_more opening (first ∷ h.more) r h.follow
          (goes_on_from table.state (last_state opening (first ∷ h.more)) next h.leaves goes) g.legal g.whole;
      leaves = subst (λ (s : State). Agrees last.state s) (sym (runs_are_last opening (first ∷ h.more) r).0) g.agrees;
    }

-- one history more after a reload
pub reload_goes_on : RunsReload
reload_goes_on opening table file journal rest renewal next last h p r g =
    let made = reloaded_is_reload file journal rest renewal table next table.state p r (agrees_itself table.state) in
    runs_go_on opening next.table.state table last h (inr (file, made.0, made.1)) g

-- without a reload between them, histories follow on one another as the runs do that wrote one journal
pub in_a_row_follow_on : InARowFollowOn
in_a_row_follow_on s [] sound h = record { sound = sound; each = tt; counts = tt }
in_a_row_follow_on s (r ∷ rs) sound h =
    let opens = tables_may_open s [] r.opening (record { sound = sound; each = tt; counts = tt }) h.0 in
    let rest = in_a_row_follow_on (outcome r.opening r.history) rs (histories_stay_sound r.opening r.history opens.sound h.1 h.2) h.3 in
    record { sound = sound; each = (opens.left.keys, opens.sound, h.1, h.2, rest.each); counts = (opens.left.count, rest.counts) }

-- the laws of runs
pub ruleset run_laws = (
  runs_stay_sound,
  used_over_reloads,
  names_over_reloads,
  count_over_reloads,
  quiet_over_reloads,
  runs_begin,
  runs_go_on,
)
