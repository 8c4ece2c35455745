-- What the machine answers to an update from the KDC, from what the table decided.
use Rattle.std.proofs.Common.{◌≡◌, ℕ, ◌+◌, ◌<◌, List, [], ◌∷◌, ◌++◌, length, Bool, true, false, ◌&&◌, ◌||◌, not}
use Rattle.std.proofs.Common.{if◌then◌else◌, Option, refl, sym, ◌∙◌, ap, subst, inl, inr}
use Rattle.std.specs.Prelude.{◌⊎◌, option_map, is_none}
use Rattle.std.specs.Int.{w16, to_be_bytes}
use Rattle.chpw_record.specs.declared.key.KeyRow.{KeyRow}
use Rattle.chpw_record.specs.Records.{kind_number, key_text}
use Rattle.chpw_table.specs.declared.times.Moment.{Moment}
use Rattle.chpw_table.specs.declared.updating.KdcUpdate.{KdcUpdate}
use Rattle.chpw_table.specs.declared.updating.KdcUpdate.TheVariants.{Adopt, Lift, Remove}
use Rattle.chpw_table.specs.declared.updating.UpdateOutcome.{UpdateOutcome}
use Rattle.chpw_table.specs.declared.updating.UpdateVerdict.{UpdateVerdict}
use Rattle.chpw_table.specs.declared.updating.UpdateVerdict.TheVariants.{NoSuchPrincipal, NotNewer, Broken, Taken}
use Rattle.chpw_table.specs.declared.history.Event.TheVariants.{Update}
use Rattle.chpw_table.specs.State.{State, keys_held}
use Rattle.chpw_table.specs.Updates.{name_in, kind_of, key_in, has_newest, is_newer, update_row, update_verdict}
use Rattle.chpw_table.specs.Updates.{update_record, is_taken, is_lost, step_update, IsUpdate}
use Rattle.chpw_table.specs.Journal.{event_appended}
use Rattle.chpw_table.specs.Agreement.{Held, Agrees}
use Rattle.chpw_table.specs.Outcomes.{StepsBy, WritesBy}
use Rattle.chpw_commands.specs.declared.drill.printed.Response.{Response}
use Rattle.chpw_commands.specs.declared.drill.printed.Response.TheVariants.{Updated, Full}
use Rattle.chpw_commands.specs.declared.drill.running.Drill.{Drill}
use Rattle.chpw_commands.specs.declared.drill.sink.RequestSink.{RequestSink}
use Rattle.chpw_commands.specs.Stages.{Machine, update_fails, response_to_update, machine_updated}
use Rattle.chpw_commands.specs.Following.{Runs}
use Rattle.chpw_commands.proofs.AppendLemmas.{not_empty, failed_of, told_of, io_taken, io_failing}
use Rattle.chpw_commands.proofs.RespondLemmas.{is_below, is_full}

-- a record is not empty
not_recorded : (b : Bool) (s : State) (u : KdcUpdate) → [] ≡ (if b then update_record s u else []) → b ≡ false
not_recorded true s u h =
    let key : KeyRow = key_in (keys_held s (name_in u)) u in
    absurd (not_empty (kind_number (kind_of u)) (to_be_bytes w16 (length (key_text (kind_number (kind_of u)) (name_in u) key))) _ h)
not_recorded false s u h = refl

-- a test refuses it whatever the journal is; or only a journal that is broken does
Row : (Bool → UpdateVerdict) → Type 0
Row row = ((v : UpdateVerdict) × ((b : Bool) → row b ≡ v) × (is_taken v ≡ false) × (is_lost v ≡ false))
    ⊎ ((b : Bool) → row b ≡ (if b then Broken else Taken))

rows : (u : KdcUpdate) (held : Option (List KeyRow)) → Row (update_row u held)
unfolding Row
rows (Adopt name key) held = at (is_newer key.kvno held)
  where
    at : (newer : Bool) → Row (λ b. if not newer then NotNewer else if b then Broken else Taken)
    at true = inr (λ b. refl)
    at false = inl (NotNewer, λ b. refl, refl, refl)
rows (Lift name kvno) held = at (has_newest held) (is_newer kvno held)
  where
    at : (some newer : Bool) → Row (λ b. if not some then NoSuchPrincipal else if not newer then NotNewer else if b then Broken else Taken)
    at true true = inr (λ b. refl)
    at true false = inl (NotNewer, λ b. refl, refl, refl)
    at false newer = inl (NoSuchPrincipal, λ b. refl, refl, refl)
rows (Remove name) held = at (is_none held)
  where
    at : (none : Bool) → Row (λ b. if none then NoSuchPrincipal else if b then Broken else Taken)
    at true = inl (NoSuchPrincipal, λ b. refl, refl, refl)
    at false = inr (λ b. refl)

-- of a journal that is broken (b)
io_of_row : (row : Bool → UpdateVerdict) (b io : Bool) (v : UpdateVerdict) → Row row → v ≡ row (b || io)
    → (io ≡ true → (v ≡ Broken) × (b ≡ false)) → is_taken v ≡ false → io ≡ is_taken (row (b || false))
unfolding Row
io_of_row row b true v (inl (w, same, taken, lost)) e h f =
    let one : is_lost w ≡ true = ap is_lost (sym (same (b || true)) ∙ (sym e ∙ (h refl).0)) in
    let two : true ≡ false = sym one ∙ lost in cc
io_of_row row b false v (inl (w, same, taken, lost)) e h f = sym (ap is_taken (same (b || false)) ∙ taken)
io_of_row row true true v (inr is) e h f = let u : true ≡ false = (h refl).1 in cc
io_of_row row true false v (inr is) e h f = sym (ap is_taken (is true))
io_of_row row false true v (inr is) e h f = sym (ap is_taken (is false))
io_of_row row false false v (inr is) e h f = let u : true ≡ false = sym (ap is_taken (e ∙ is false)) ∙ f in cc

-- the append failed exactly where one was made and the sink fails
io_is : (fails io : Bool) (k : RequestSink) (s : State) (u : KdcUpdate) (v : UpdateVerdict) → IsUpdate s u io v →
    failed_of k ≡ (if io then failed_of (record { fails = fails; failed = 0 }) + 1 else failed_of (record { fails = fails; failed = 0 })) →
    told_of k ≡ option_map (λ xs. xs ++ event_appended s (Update u v)) (told_of (record { fails = fails; failed = 0 })) →
    io ≡ (fails && is_taken (update_verdict s u false))
io_is false io k s u v d h e = io_taken k.fails k.failed io e h
io_is true io k s u v d h e =
    io_of_row (update_row u (keys_held s (name_in u))) s.broken io v (rows u (keys_held s (name_in u))) d.verdict_is d.append
    (not_recorded (is_taken v) s u (io_failing k.fails (event_appended s (Update u v)) e))

module _ (d : Drill) (now : Moment) (u : KdcUpdate) (x : UpdateOutcome) (k : RequestSink) (t : Held)
    (c : StepsBy d.table t now x.io_failed (Update u x.verdict))
    (w : WritesBy failed_of told_of d.table.state (record { fails = d.fails; failed = 0 }) k x.io_failed (Update u x.verdict))
    (same : x.update ≡ u) (m : Machine) (r : Runs d m) where
  same_io : x.io_failed ≡ update_fails m u
  same_io = io_is d.fails x.io_failed k m.state u x.verdict (c.legal m.state r.state) w.io (w.tells m.state r.state)
      ∙ ap (λ (b : Bool). b && is_taken (update_verdict m.state u false)) r.fails

  low : m.events < m.max_entries
  low = rw (← r.events, ← r.max_entries) c.room

  pub updated_is : Updated x.update x.verdict ≡ response_to_update m u
  updated_is = rw (is_below m.events m.max_entries low)
      (ap (λ (y : KdcUpdate). Updated y x.verdict) same
      ∙ ap (λ (v : UpdateVerdict). Updated u v) ((c.legal m.state r.state).verdict_is ∙ ap (λ (b : Bool). update_verdict m.state u b) same_io))

  pub updated_runs : Runs (record { table = t; realm = d.realm; fails = d.fails && not x.io_failed }) (machine_updated m now u)
  updated_runs =
      let after : Runs (record { table = t; realm = d.realm; fails = d.fails && not x.io_failed }) (record {
        state = step_update m.state now u (update_fails m u);
        events = m.events + 1;
        max_entries = m.max_entries;
        fails = m.fails && not (update_fails m u);
      }) = record {
        state = subst (λ (b : Bool). Agrees t.state (step_update m.state now u b)) same_io (c.agrees m.state r.state);
        events = c.events ∙ ap (λ (n : ℕ). n + 1) r.events;
        max_entries = c.max_entries ∙ r.max_entries;
        fails = ap (λ (b : Bool). b && not x.io_failed) r.fails ∙ ap (λ (b : Bool). m.fails && not b) same_io;
        realm = r.realm;
      } in
      rw (is_below m.events m.max_entries low) after

module _ (d : Drill) (now : Moment) (u : KdcUpdate) (full : d.table.events ≡ d.table.max_entries) (m : Machine) (r : Runs d m) where
  none_left : m.events ≡ m.max_entries
  none_left = sym r.events ∙ (full ∙ r.max_entries)

  pub full_update_is : Full ≡ response_to_update m u
  full_update_is = rw (is_full m.events m.max_entries none_left) refl

  pub full_update_runs : Runs d (machine_updated m now u)
  full_update_runs = rw (is_full m.events m.max_entries none_left) r
