-- The journal of a run gives the keys that the run left.
use Rattle.std.proofs.Common.{◌≡◌, ◌≢◌, ℕ, ◌+◌, ◌≤◌, List, [], ◌∷◌, ◌++◌, length}
use Rattle.std.proofs.Common.{Bool, true, false, not, ◌&&◌, ◌||◌, ◌==◌, if◌then◌else◌, Option, Some, None}
use Rattle.std.proofs.Common.{is_none, unwrap_or, refl, sym, ◌∙◌, ap, subst, arith, rules}
use Rattle.std.specs.Prelude.{option_map, IsSome, IfSome}
use Rattle.std.specs.List.{list_all}
use Rattle.std.proofs.lemmas.Bool.Decides.{nat_tests}
use Rattle.chpw_rules.specs.declared.name.Name.{Name}
use Rattle.chpw_rules.specs.Names.{is_same_name, is_name}
use Rattle.chpw_rules.specs.Limits.{is_in, kvnos, iteration_counts}
use Rattle.chpw_table.specs.declared.verdict.Verdict.{Verdict}
use Rattle.chpw_table.specs.declared.verdict.Verdict.TheVariants.{Broken, Done}
use Rattle.chpw_table.specs.declared.times.Moment.{Moment}
use Rattle.chpw_table.specs.declared.request.Opened.{Opened}
use Rattle.chpw_table.specs.declared.table.Principal.{Principal}
use Rattle.chpw_table.specs.declared.updating.KdcUpdate.{KdcUpdate}
use Rattle.chpw_table.specs.declared.updating.KdcUpdate.TheVariants as update
use Rattle.chpw_table.specs.declared.updating.UpdateVerdict.{UpdateVerdict}
use Rattle.chpw_table.specs.declared.updating.UpdateVerdict.TheVariants as taking
use Rattle.chpw_table.specs.declared.history.Event.{Event}
use Rattle.chpw_table.specs.declared.history.Event.TheVariants.{Ask, Raise, Update}
use Rattle.chpw_table.specs.declared.history.Entry.{Entry}
use Rattle.chpw_record.specs.declared.key.KeyRow.{KeyRow}
use Rattle.chpw_table.specs.Requests.{target_of}
use Rattle.chpw_table.specs.State.{State, keys_held, kept_count, new_count}
use Rattle.chpw_table.specs.Verdicts.{is_done}
use Rattle.chpw_table.specs.Decision.{verdict, key_row, newest_kvno}
use Rattle.chpw_table.specs.Step.{step, new_key}
use Rattle.chpw_table.specs.Holding.{is_count_in_range}
use Rattle.chpw_table.specs.Raising.{raise_verdict, is_raised, step_raise}
use Rattle.chpw_table.specs.Updates.{name_in, kind_of, key_in, update_fits, lifted_key, has_newest, is_newer}
use Rattle.chpw_table.specs.Updates.{update_row, update_verdict, is_taken, step_update, IsUpdate, keys_after as made_of, with_keys}
use Rattle.chpw_table.specs.History.{step_event, step_entry, outcome, is_accepted, IsLegal, IsJudged, IsDecided}
use Rattle.chpw_table.specs.Journal.{journal, event_record}
use Rattle.chpw_table.specs.Entering.{with_append}
use Rattle.chpw_table.specs.Restoring.{with_kept_count}
use Rattle.chpw_table.proofs.AppendLemmas.{verdict_written}
use Rattle.chpw_table.proofs.BoolLemmas.{and_left, and_right}
use Rattle.chpw_table.proofs.DoneLemmas.{done_key_row, done_held, done_version}
use Rattle.chpw_table.proofs.KeyLemmas.{keys_after, keys_in, put}
use Rattle.chpw_record.specs.declared.record.Record.{Record}
use Rattle.chpw_record.specs.declared.record.KeyKind.TheVariants as kind
use Rattle.chpw_record.specs.Records.{ChangeFits, RecordFits, record_text, records_text}
use Rattle.chpw_journal.specs.JournalText.{restored, is_lacked, may_follow, with_record, AreNext, IsNextRecord, Begins}
use Rattle.chpw_journal.specs.Runs.{record_by, records_of, SameKeys, IsSound, IsWholeKey, BringsWhole, AreWhole, Run, AreRuns, journals, records_in, last_state}
use Rattle.chpw_journal.specs.Laws.{ReadsJournals, RecordsAreJournals, RestoresKeys}
use Rattle.chpw_record.proofs.RecordLemmas.{records_joined}
use Rattle.chpw_journal.proofs.CoverLemmas.{record_alike, record_keys}
use Rattle.chpw_journal.proofs.RecordsLemmas.{restored_joined, next_joined}
use Rattle.chpw_journal.proofs.SoundLemmas.{sound_alike, sound_record}
use Rattle.chpw_journal.proofs.StopLemmas.{reads_one}

-- ---- an accepted entry

done_is : (v : Verdict) → is_done v ≡ true → v ≡ Done
done_is Done h = refl
done_is v h = absurd (cc)

append_done : (io : Bool) (v : Verdict) → with_append io v ≡ Done → v ≡ Done
append_done io v h = at (is_done v && io) h
  where
    at : (b : Bool) → (if b then Broken else v) ≡ Done → v ≡ Done
    at true k = cc
    at false k = k

-- no row refuses what was accepted, were its append not to fail
pub accepted_row : (s : State) (now : Moment) (o : Opened) (io : Bool) (v : Verdict)
    → IsDecided s now o io v → is_done v ≡ true → is_done (key_row s o false) ≡ true
accepted_row s now o io v d h =
    let is : verdict s now o io ≡ Done = sym d.verdict_is ∙ done_is v h in
    done_key_row s now o (append_done io (verdict s now o false) (sym (verdict_written s now o io) ∙ is))

pub some_keys : (o : Option (List KeyRow)) → is_none o ≡ false → (keys : List KeyRow) × (o ≡ Some keys)
some_keys None h = absurd (cc)
some_keys (Some keys) h = (keys, refl)

is_some : (o : Option (List KeyRow)) (keys : List KeyRow) → o ≡ Some keys → IsSome o
is_some None keys h = absurd (cc)
is_some (Some others) keys h = search rules

low_kvno : (n : ℕ) → is_in kvnos (n + 1) ≡ true → n + 1 ≤ 4294967295
low_kvno n h = grind (arith, nat_tests)

next_kvno : (n : ℕ) → n ≤ 4294967295 → n ≢ 4294967295 → is_in kvnos (n + 1) ≡ true
next_kvno n h g = grind (arith, nat_tests)

newest_low : (o : Option (List KeyRow)) (keys : List KeyRow)
    → o ≡ Some keys → IfSome o (λ ks. newest_kvno ks ≤ 4294967295) → newest_kvno (unwrap_or o []) ≤ 4294967295
newest_low None keys h low = absurd (cc)
newest_low (Some others) keys h low = low

equal_itself : (n : ℕ) → (n == n) ≡ true
equal_itself n = grind (arith, nat_tests)

module _ (s : State) (now : Moment) (o : Opened) (io : Bool) (v : Verdict) (sound : IsSound s) (d : IsDecided s now o io v) (h : is_done v ≡ true) where
  held : (keys : List KeyRow) × (keys_held s (target_of o).name ≡ Some keys)
  held = some_keys (keys_held s (target_of o).name) (done_held s o (accepted_row s now o io v d h))

  kvno : is_in kvnos (new_key s o).kvno ≡ true
  kvno =
      let k = held in
      next_kvno (newest_kvno (unwrap_or (keys_held s (target_of o).name) []))
      (newest_low (keys_held s (target_of o).name) k.0 k.1 (sound.versions (target_of o).name))
      (done_version s o (accepted_row s now o io v d h))

  fits : (length (new_key s o).aes128 ≡ 16) × (length (new_key s o).aes256 ≡ 32) → RecordFits (record_by s (Ask o v))
  fits w =
      let k = held in
      record {
        name = sound.names (target_of o).name (is_some (keys_held s (target_of o).name) k.0 k.1);
        kvno = kvno;
        count = sound.count;
        aes128 = w.0;
        aes256 = w.1;
      }

  next_record : (t : State) → SameKeys t s → IsNextRecord t (record_by s (Ask o v))
  next_record t same =
      let k = held in
      let is : keys_held t (target_of o).name ≡ keys_held s (target_of o).name = same.keys (target_of o).name in (
        ap (λ (x : Option (List KeyRow)). is_lacked kind.Change x) (is ∙ k.1),
        subst (λ (x : Option (List KeyRow)). ((new_key s o).kvno == newest_kvno (unwrap_or x []) + 1) ≡ true) (sym is) (equal_itself (new_key s o).kvno),
      )

-- ---- what an event leaves

-- the keys of a name after a decision
pub after_decision : (s : State) (now : Moment) (o : Opened) (io : Bool) (v : Verdict) → IsDecided s now o io v → (name : Name)
    → keys_held (step s now o io) name ≡ (if is_done v && is_same_name (target_of o).name name
    then option_map (put (kept_count s) (new_key s o)) (keys_held s name) else keys_held s name)
after_decision s now o io v d name =
    keys_after s (verdict s now o io) now o io name
    ∙ ap (λ (w : Verdict). if is_done w && is_same_name (target_of o).name name
    then option_map (put (kept_count s) (new_key s o)) (keys_held s name) else keys_held s name) (sym d.verdict_is)

same_after_done : (t s : State) (now : Moment) (o : Opened) (io : Bool) (v : Verdict) → IsDecided s now o io v
    → is_done v ≡ true → SameKeys t s → SameKeys (with_record (record_by s (Ask o v)) t) (step s now o io)
same_after_done t s now o io v d h same = record {
  kept = same.kept;
  keys = λ name.
      record_keys t kind.Change (record { name = (target_of o).name; key = new_key s o }) name
      ∙ (ap (λ (k : ℕ). if is_same_name (target_of o).name name then option_map (put k (new_key s o)) (keys_held t name) else keys_held t name) same.kept
      ∙ (ap (λ (x : Option (List KeyRow)). if is_same_name (target_of o).name name then option_map (put (kept_count s) (new_key s o)) x else x) (same.keys name)
      ∙ (ap (λ (b : Bool). if b && is_same_name (target_of o).name name
      then option_map (put (kept_count s) (new_key s o)) (keys_held s name) else keys_held s name) (sym h)
      ∙ sym (after_decision s now o io v d name))));
}

same_after_other : (t s : State) (now : Moment) (o : Opened) (io : Bool) (v : Verdict)
    → IsDecided s now o io v → is_done v ≡ false → SameKeys t s → SameKeys t (step s now o io)
same_after_other t s now o io v d h same = record {
  kept = same.kept;
  keys = λ name.
      same.keys name
      ∙ (ap (λ (b : Bool). if b && is_same_name (target_of o).name name
      then option_map (put (kept_count s) (new_key s o)) (keys_held s name) else keys_held s name) (sym h)
      ∙ sym (after_decision s now o io v d name));
}

-- a raise leaves all keys, and so does its record
same_after_raise : (t s : State) (now : Moment) (count : ℕ) (io : Bool) → SameKeys t s → SameKeys (with_kept_count count t) (step_raise s now count io)
same_after_raise t s now count io same = record { kept = same.kept; keys = same.keys }

same_without_raise : (t s : State) (now : Moment) (count : ℕ) (io : Bool) → SameKeys t s → SameKeys t (step_raise s now count io)
same_without_raise t s now count io same = record { kept = same.kept; keys = same.keys }

-- ---- an update that is taken

first_test : (newer broken : Bool) → is_taken (if not newer then taking.NotNewer else if broken then taking.Broken else taking.Taken) ≡ true → newer ≡ true
first_test true broken h = refl
first_test false broken h = absurd (cc)

second_test : (known : Bool) (rest : UpdateVerdict) → is_taken (if not known then taking.NoSuchPrincipal else rest) ≡ true
    → (known ≡ true) × (is_taken rest ≡ true)
second_test true rest h = (refl, h)
second_test false rest h = absurd (cc)

third_test : (none broken : Bool) → is_taken (if none then taking.NoSuchPrincipal else if broken then taking.Broken else taking.Taken) ≡ true → none ≡ false
third_test false broken h = refl
third_test true broken h = absurd (cc)

there_is : (held : Option (List KeyRow)) → has_newest held ≡ true → is_none held ≡ false
there_is None h = absurd (cc)
there_is (Some keys) h = refl

lifted_kvno : (n : ℕ) (keys : List KeyRow) → (lifted_key n keys).kvno ≡ n
lifted_kvno n [] = refl
lifted_kvno n (k ∷ ks) = refl

lifted_count : (n : ℕ) (x : Option (List KeyRow)) → has_newest x ≡ true → IfSome x (λ keys. list_all is_count_in_range keys ≡ true)
    → is_in iteration_counts (lifted_key n (unwrap_or x [])).count ≡ true
lifted_count n None h c = absurd (cc)
lifted_count n (Some []) h c = absurd (cc)
lifted_count n (Some (k ∷ ks)) h c = and_left (is_count_in_range k) (list_all is_count_in_range ks) c

-- its record may come next after the keys that it was taken over
row_next : (u : KdcUpdate) (held : Option (List KeyRow)) (broken : Bool) → is_taken (update_row u held broken) ≡ true
    → (is_lacked (kind_of u) held ≡ false) × (may_follow (kind_of u) (key_in held u).kvno held ≡ true)
row_next (update.Adopt name key) held broken h = (refl, first_test (is_newer key.kvno held) broken h)
row_next (update.Lift name kvno) held broken h =
    let tests = second_test (has_newest held) (if not (is_newer kvno held) then taking.NotNewer else if broken then taking.Broken else taking.Taken) h in (
      there_is held tests.0,
      subst (λ (n : ℕ). is_newer n held ≡ true) (sym (lifted_kvno kvno (unwrap_or held []))) (first_test (is_newer kvno held) broken tests.1),
    )
row_next (update.Remove name) held broken h = (third_test (is_none held) broken h, refl)

-- and it is within the limits
row_fits : (s : State) (u : KdcUpdate) (broken : Bool) → IsSound s → is_taken (update_row u (keys_held s (name_in u)) broken) ≡ true
    → (update_fits u ≡ true) × IsWholeKey (key_in (keys_held s (name_in u)) u)
    → ChangeFits (record { name = name_in u; key = key_in (keys_held s (name_in u)) u })
row_fits s (update.Adopt name key) broken sound h w =
    let numbers = and_right (is_name name) (is_in kvnos key.kvno && is_in iteration_counts key.count) w.0 in
    record {
      name = and_left (is_name name) (is_in kvnos key.kvno && is_in iteration_counts key.count) w.0;
      kvno = and_left (is_in kvnos key.kvno) (is_in iteration_counts key.count) numbers;
      count = and_right (is_in kvnos key.kvno) (is_in iteration_counts key.count) numbers;
      aes128 = w.1.0;
      aes256 = w.1.1;
    }
row_fits s (update.Lift name kvno) broken sound h w =
    let held : Option (List KeyRow) = keys_held s name in
    let tests = second_test (has_newest held) (if not (is_newer kvno held) then taking.NotNewer else if broken then taking.Broken else taking.Taken) h in
    let k = some_keys held (there_is held tests.0) in
    record {
      name = sound.names name (is_some held k.0 k.1);
      kvno = subst (λ (n : ℕ). is_in kvnos n ≡ true) (sym (lifted_kvno kvno (unwrap_or held []))) w.0;
      count = lifted_count kvno held tests.0 (sound.counts name);
      aes128 = w.1.0;
      aes256 = w.1.1;
    }
row_fits s (update.Remove name) broken sound h w =
    let k = some_keys (keys_held s name) (third_test (is_none (keys_held s name)) broken h) in
    record {
      name = sound.names name (is_some (keys_held s name) k.0 k.1);
      kvno = refl;
      count = refl;
      aes128 = w.1.0;
      aes256 = w.1.1;
    }

module _ (s : State) (now : Moment) (u : KdcUpdate) (io : Bool) (v : UpdateVerdict) (d : IsUpdate s u io v) where
  taken_is : (b : Bool) → is_taken v ≡ b → is_taken (update_verdict s u io) ≡ b
  taken_is b h = ap is_taken (sym d.verdict_is) ∙ h

  abbrev taken_keys : List Principal
  taken_keys = with_keys (name_in u) (made_of (kind_of u) (kept_count s) (key_in (keys_held s (name_in u)) u) (keys_held s (name_in u))) s.principals

  -- the principals that are left
  left : (b : Bool) → is_taken v ≡ b → (step_update s now u io).principals ≡ (if b then taken_keys else s.principals)
  left b h = ap (λ (c : Bool). if c then taken_keys else s.principals) (taken_is b h)

  same_after_update : (t : State) → is_taken v ≡ true → SameKeys t s → SameKeys (with_record (record_by s (Update u v)) t) (step_update s now u io)
  same_after_update t h same = record {
    kept = same.kept;
    keys = λ name.
        record_alike t s (record_by s (Update u v)) name same.kept (same.keys name)
        ∙ ap (λ (ps : List Principal). keys_in ps name) (sym (left true h));
  }

  same_without_update : (t : State) → is_taken v ≡ false → SameKeys t s → SameKeys t (step_update s now u io)
  same_without_update t h same = record {
    kept = same.kept;
    keys = λ name. same.keys name ∙ ap (λ (ps : List Principal). keys_in ps name) (sym (left false h));
  }

  next_update : (t : State) → is_taken v ≡ true → SameKeys t s → IsNextRecord t (record_by s (Update u v))
  next_update t h same =
      subst (λ (x : Option (List KeyRow)). (is_lacked (kind_of u) x ≡ false)
      × (may_follow (kind_of u) (key_in (keys_held s (name_in u)) u).kvno x ≡ true)) (sym (same.keys (name_in u)))
      (row_next u (keys_held s (name_in u)) (s.broken || io) (taken_is true h))

  fits_update : IsSound s → is_taken v ≡ true → BringsWhole s (Update u v) → RecordFits (record_by s (Update u v))
  fits_update sound h w = row_fits s u (s.broken || io) sound (taken_is true h) w

-- ---- what stays within the limits

pub same_itself : (s : State) → SameKeys s s
same_itself s = record { kept = refl; keys = λ name. refl }

sound_ask : (s : State) (now : Moment) (o : Opened) (io : Bool) (v : Verdict) → IsSound s → IsDecided s now o io v
    → (is_done v ≡ true → BringsWhole s (Ask o v)) → (b : Bool) → is_done v ≡ b → IsSound (step s now o io)
sound_ask s now o io v sound d w true h =
    sound_alike (with_record (record_by s (Ask o v)) s) (step s now o io)
    (record { keys = same_after_done s s now o io v d h (same_itself s); count = refl })
    (sound_record s kind.Change (record { name = (target_of o).name; key = new_key s o }) sound (fits s now o io v sound d h (w h)))
sound_ask s now o io v sound d w false h =
    sound_alike s (step s now o io) (record { keys = same_after_other s s now o io v d h (same_itself s); count = refl }) sound

sound_update : (s : State) (now : Moment) (u : KdcUpdate) (io : Bool) (v : UpdateVerdict) → IsSound s → IsUpdate s u io v
    → (is_taken v ≡ true → BringsWhole s (Update u v)) → (b : Bool) → is_taken v ≡ b → IsSound (step_update s now u io)
sound_update s now u io v sound d w true h =
    sound_alike (with_record (record_by s (Update u v)) s) (step_update s now u io)
    (record { keys = same_after_update s now u io v d s h (same_itself s); count = refl })
    (sound_record s (kind_of u) (record { name = name_in u; key = key_in (keys_held s (name_in u)) u }) sound
    (fits_update s now u io v d sound h (w h)))
sound_update s now u io v sound d w false h =
    sound_alike s (step_update s now u io) (record { keys = same_without_update s now u io v d s h (same_itself s); count = refl }) sound

count_fits : (m n : ℕ) (b : Bool) → is_in iteration_counts n ≡ true
    → (b ≡ true → is_in iteration_counts m ≡ true) → is_in iteration_counts (if b then m else n) ≡ true
count_fits m n true h w = w refl
count_fits m n false h w = h

pub sound_event : (s : State) (now : Moment) (io : Bool) (event : Event) → IsSound s
    → IsJudged s now io event → (is_accepted event ≡ true → BringsWhole s event) → IsSound (step_event s now io event)
sound_event s now io (Ask o v) sound d w = sound_ask s now o io v sound d w (is_done v) refl
sound_event s now io (Raise count v) sound d w = record {
  count = count_fits count (new_count s) (is_raised (raise_verdict s count io)) sound.count (λ h. w (ap is_raised d.verdict_is ∙ h));
  names = sound.names;
  versions = sound.versions;
  counts = sound.counts;
}
sound_event s now io (Update u v) sound d w = sound_update s now u io v sound d w (is_taken v) refl

-- ---- histories and runs

abbrev pub Follows : State → List Record → State → Type 0
Follows t records last = AreNext t records × SameKeys (restored t records) last

event_next : (t s last : State) (now : Moment) (io : Bool) (event : Event) (rs : List Record) → SameKeys t s → IsSound s → IsJudged s now io event
    → (is_accepted event ≡ true → BringsWhole s event)
    → ((u : State) → SameKeys u (step_event s now io event) → Follows u rs last)
    → (b : Bool) → is_accepted event ≡ b → Follows t ((if b then record_by s event ∷ [] else []) ++ rs) last
event_next t s last now io (Ask o v) rs same sound d w ih true h =
    let n = ih (with_record (record_by s (Ask o v)) t) (same_after_done t s now o io v d h same) in
    ((fits s now o io v sound d h (w h), next_record s now o io v sound d h t same, n.0), n.1)
event_next t s last now io (Ask o v) rs same sound d w ih false h = ih t (same_after_other t s now o io v d h same)
event_next t s last now io (Raise count v) rs same sound d w ih true h =
    let n = ih (with_kept_count count t) (same_after_raise t s now count io same) in
    ((w h, tt, n.0), n.1)
event_next t s last now io (Raise count v) rs same sound d w ih false h = ih t (same_without_raise t s now count io same)
event_next t s last now io (Update u v) rs same sound d w ih true h =
    let n = ih (with_record (record_by s (Update u v)) t) (same_after_update s now u io v d t h same) in
    ((fits_update s now u io v d sound h (w h), next_update s now u io v d t h same, n.0), n.1)
event_next t s last now io (Update u v) rs same sound d w ih false h = ih t (same_without_update s now u io v d t h same)

history_next : (t s : State) (es : List Entry) → SameKeys t s → IsSound s → IsLegal s es → AreWhole s es → Follows t (records_of s es) (outcome s es)
history_next t s [] same sound legal w = (tt, same)
history_next t s (e ∷ es) same sound legal w =
    event_next t s (outcome (step_entry s e) es) e.now e.io_failed e.event (records_of (step_entry s e) es) same sound legal.0 w.0
    (λ u same2. history_next u (step_entry s e) es same2 (sound_event s e.now e.io_failed e.event sound legal.0 w.0) legal.1 w.1)
    (is_accepted e.event) refl

pub same_next : (t s u : State) → SameKeys t s → SameKeys s u → SameKeys t u
same_next t s u h g = record { kept = h.kept ∙ g.kept; keys = λ name. h.keys name ∙ g.keys name }

pub runs_next : (t s : State) (runs : List Run) → SameKeys t s → AreRuns s runs → Follows t (records_in runs) (last_state s runs)
runs_next t s [] same h = (tt, same)
runs_next t s (r ∷ rs) same h =
    let n = history_next t r.opening r.history (same_next t s r.opening same h.0) h.1 h.2 h.3 in
    let m = runs_next (restored t (records_of r.opening r.history)) (outcome r.opening r.history) rs n.1 h.4 in (
      next_joined t (records_of r.opening r.history) (records_in rs) n.0 m.0,
      subst (λ (u : State). SameKeys u (last_state (outcome r.opening r.history) rs))
          (sym (restored_joined t (records_of r.opening r.history) (records_in rs))) m.1,
    )

event_text : (s : State) (event : Event) (rs : List Record) (more : List ℕ) → records_text rs ≡ more → (b : Bool)
    → records_text ((if b then record_by s event ∷ [] else []) ++ rs) ≡ (if b then event_record s event else []) ++ more
event_text s (Ask o v) rs more h true = ap (λ (xs : List ℕ). record_text (record_by s (Ask o v)) ++ xs) h
event_text s (Raise count v) rs more h true = ap (λ (xs : List ℕ). record_text (record_by s (Raise count v)) ++ xs) h
event_text s (Update u v) rs more h true = ap (λ (xs : List ℕ). record_text (record_by s (Update u v)) ++ xs) h
event_text s event rs more h false = h

history_records : (s : State) (es : List Entry) → records_text (records_of s es) ≡ journal s es
history_records s [] = refl
history_records s (e ∷ es) = event_text s e.event (records_of (step_entry s e) es)
    (journal (step_entry s e) es) (history_records (step_entry s e) es) (is_accepted e.event)

pub records_are_journals : RecordsAreJournals
records_are_journals [] = refl
records_are_journals (r ∷ rs) =
    records_joined (records_of r.opening r.history) (records_in rs)
    ∙ (ap (λ (xs : List ℕ). xs ++ records_text (records_in rs)) (history_records r.opening r.history)
    ∙ ap (λ (xs : List ℕ). journal r.opening r.history ++ xs) (records_are_journals rs))

pub restores_keys : RestoresKeys
restores_keys s runs h name = (runs_next s s runs (same_itself s) h).1.keys name

pub reads_journals : ReadsJournals
reads_journals s runs cut h c =
    let text : journals runs ++ cut ≡ records_text (records_in runs) ++ cut = ap (λ (xs : List ℕ). xs ++ cut) (sym (records_are_journals runs)) in
    let begins : Begins s (journals runs ++ cut) (records_in runs) cut = record { text_is = text; next = (runs_next s s runs (same_itself s) h).0 } in
    ((begins, c), λ reading g. reads_one s (journals runs ++ cut) (records_in runs) cut begins c reading g)
