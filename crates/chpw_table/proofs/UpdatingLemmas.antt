-- What an update does to a table, put together from its parts, and in each state that the table agrees with.
use Rattle.std.proofs.Common.{◌≡◌, ℕ, ◌+◌, max, List, [], ◌++◌, Bool, true, false, not, ◌&&◌, ◌||◌, if◌then◌else◌, is_none}
use Rattle.std.proofs.Common.{Option, Some, None, refl, sym, ◌∙◌, ap, subst}
use Rattle.std.specs.Prelude.{option_map}
use Rattle.std.specs.Int.{int_max}
use Rattle.chpw_rules.specs.declared.name.Name.{Name}
use Rattle.chpw_rules.specs.Names.{is_same_name}
use Rattle.chpw_record.specs.declared.key.KeyRow.{KeyRow}
use Rattle.chpw_record.specs.Records.{key_bytes}
use Rattle.chpw_table.specs.declared.times.Moment.{Moment}
use Rattle.chpw_table.specs.declared.table.placing.Placement.{Placement}
use Rattle.chpw_table.specs.declared.updating.KdcUpdate.{KdcUpdate}
use Rattle.chpw_table.specs.declared.updating.KdcUpdate.TheVariants as update
use Rattle.chpw_table.specs.declared.updating.UpdateVerdict.{UpdateVerdict}
use Rattle.chpw_table.specs.declared.updating.UpdateVerdict.TheVariants.{NoSuchPrincipal, NotNewer, Broken, Taken}
use Rattle.chpw_table.specs.declared.history.Event.TheVariants.{Update}
use Rattle.chpw_table.specs.State.{State, Fixed, keys_held, kept_count}
use Rattle.chpw_table.specs.Times.{clock_at}
use Rattle.chpw_table.specs.Updates.{name_in, kind_of, key_in, keys_after, is_taken, is_lost, is_newer, has_newest, update_row}
use Rattle.chpw_table.specs.Updates.{update_verdict, after_update, step_update, update_record, IsUpdate}
use Rattle.chpw_table.specs.declared.table.planning.Plan.{Plan}
use Rattle.chpw_table.specs.declared.table.updating.PreparedUpdate.{PreparedUpdate}
use Rattle.chpw_table.specs.Updating.{IsUpdateReady, with_written}
use Rattle.chpw_table.specs.Journal.{event_appended}
use Rattle.chpw_table.specs.Agreement.{Held, Agrees}
use Rattle.chpw_table.specs.Entering.{with_event, with_broken}
use Rattle.chpw_table.specs.EnteringUpdates.{IsUpdateEntered}
use Rattle.chpw_table.specs.Placing.{IsPlaced, with_update}
use Rattle.chpw_table.specs.Planning.{IsNextPlan, IsUpdatePlanned, keys_left}
use Rattle.chpw_table.proofs.AgreementLemmas.{agrees_onward, still_young, used_swept}
use Rattle.chpw_table.proofs.PreparingLemmas.{told_nothing}
use Rattle.chpw_table.proofs.UpdateLemmas.{keys_updated, keys_with}

-- ---- states that agree

-- an update is judged alike
pub same_update_verdict : (t s : State) (u : KdcUpdate) (io : Bool) → Agrees t s → update_verdict t u io ≡ update_verdict s u io
same_update_verdict t s u io a =
    ap (λ (held : Option (List KeyRow)). update_row u held (t.broken || io)) (a.principals (name_in u))
    ∙ ap (λ (b : Bool). update_row u (keys_held s (name_in u)) (b || io)) a.broken

updated_alike : (t s : State) (v : UpdateVerdict) (now : Moment) (u : KdcUpdate) (io : Bool)
    → Agrees t s → (name : Name) → keys_held (after_update v t now u io) name ≡ keys_held (after_update v s now u io) name
updated_alike t s v now u io a name =
    keys_updated v t now u io name
    ∙ (ap (λ (x : Option (List KeyRow)). if is_taken v && is_same_name (name_in u) name
    then keys_after (kind_of u) (kept_count t) (key_in x u) x else x) (a.principals name)
    ∙ (ap (λ (f : Fixed). if is_taken v && is_same_name (name_in u) name
    then keys_after (kind_of u) (max f.policy.depth 1) (key_in (keys_held s name) u) (keys_held s name) else keys_held s name) a.fixed
    ∙ sym (keys_updated v s now u io name)))

-- and they agree after it
agrees_after_update : (t s : State) (v : UpdateVerdict) (now : Moment) (u : KdcUpdate) (io : Bool)
    → Agrees t s → Agrees (after_update v t now u io) (after_update v s now u io)
agrees_after_update t s v now u io a = record {
  fixed = a.fixed;
  principals = updated_alike t s v now u io a;
  clock = ap (λ c. int_max c now.seconds) a.clock;
  broken = ap (λ b. b || (is_lost v && io)) a.broken;
  count = a.count;
  ids = λ id h. a.ids id (still_young s.clock now.seconds id.ctime h);
}

-- the verdict holds of each of them
pub update_for_all : (t s : State) (u : KdcUpdate) (io : Bool) (v : UpdateVerdict) → IsUpdate t u io v → Agrees t s → IsUpdate s u io v
update_for_all t s u io v r a = record {
  verdict_is = r.verdict_is ∙ same_update_verdict t s u io a;
  append = λ h. ((r.append h).0, sym a.broken ∙ (r.append h).1);
}

-- and so does the state after it
pub updated_for_all : (t later s : State) (v : UpdateVerdict) (now : Moment) (u : KdcUpdate) (io : Bool)
    → IsUpdate t u io v → Agrees later (after_update v t now u io) → Agrees t s → Agrees later (step_update s now u io)
updated_for_all t later s v now u io r e a =
    subst (λ (w : UpdateVerdict). Agrees later (after_update w s now u io)) (r.verdict_is ∙ same_update_verdict t s u io a)
    (agrees_onward later (after_update v t now u io) (after_update v s now u io) e (agrees_after_update t s v now u io a))

-- and what is appended
same_record : (t s : State) (u : KdcUpdate) → Agrees t s → update_record t u ≡ update_record s u
same_record t s u a = ap (λ (held : Option (List KeyRow)). key_bytes (kind_of u) (name_in u) (key_in held u)) (a.principals (name_in u))

pub told_update_for_all : (t s : State) (u : KdcUpdate) (v : UpdateVerdict) (before later : Option (List ℕ))
    → later ≡ option_map (λ xs. xs ++ event_appended t (Update u v)) before
    → Agrees t s → later ≡ option_map (λ xs. xs ++ event_appended s (Update u v)) before
told_update_for_all t s u v before later h a =
    h ∙ ap (λ (ys : List ℕ). option_map (λ (xs : List ℕ). xs ++ (if is_taken v then ys else [])) before) (same_record t s u a)

-- ---- the verdict

written_past : (n b io : Bool) → with_written io (if n then NotNewer else if b || false then Broken else Taken)
    ≡ (if n then NotNewer else if b || io then Broken else Taken)
written_past true b io = refl
written_past false true io = refl
written_past false false true = refl
written_past false false false = refl

written_known : (n b io : Bool) → with_written io (if n then NoSuchPrincipal else if b || false then Broken else Taken)
    ≡ (if n then NoSuchPrincipal else if b || io then Broken else Taken)
written_known true b io = refl
written_known false true io = refl
written_known false false true = refl
written_known false false false = refl

written_row : (u : KdcUpdate) (held : Option (List KeyRow)) (b io : Bool) → with_written io (update_row u held (b || false)) ≡ update_row u held (b || io)
written_row (update.Adopt name key) held b io = written_past (not (is_newer key.kvno held)) b io
written_row (update.Lift name kvno) held b io = at (not (has_newest held))
  where
    at : (k : Bool) → with_written io (if k then NoSuchPrincipal else if not (is_newer kvno held) then NotNewer else if b || false then Broken else Taken)
        ≡ (if k then NoSuchPrincipal else if not (is_newer kvno held) then NotNewer else if b || io then Broken else Taken)
    at true = refl
    at false = written_past (not (is_newer kvno held)) b io
written_row (update.Remove name) held b io = written_known (is_none held) b io

whole_past : (n b : Bool) → (if n then NotNewer else if b || false then Broken else Taken) ≡ Taken → b ≡ false
whole_past true b h = cc
whole_past false true h = cc
whole_past false false h = refl

whole_known : (n b : Bool) → (if n then NoSuchPrincipal else if b || false then Broken else Taken) ≡ Taken → b ≡ false
whole_known true b h = cc
whole_known false true h = cc
whole_known false false h = refl

whole_row : (u : KdcUpdate) (held : Option (List KeyRow)) (b : Bool) → update_row u held (b || false) ≡ Taken → b ≡ false
whole_row (update.Adopt name key) held b h = whole_past (not (is_newer key.kvno held)) b h
whole_row (update.Lift name kvno) held b h = at (not (has_newest held)) h
  where
    at : (k : Bool) → (if k then NoSuchPrincipal else if not (is_newer kvno held) then NotNewer else if b || false then Broken else Taken) ≡ Taken → b ≡ false
    at true e = cc
    at false e = whole_past (not (is_newer kvno held)) b e
whole_row (update.Remove name) held b h = whole_known (is_none held) b h

-- the journal is whole where an update is taken
pub update_whole : (s : State) (u : KdcUpdate) → update_verdict s u false ≡ Taken → s.broken ≡ false
update_whole s u h = whole_row u (keys_held s (name_in u)) s.broken h

entered_append : (t later : Held) (now : Moment) (u : KdcUpdate) (row v : UpdateVerdict) (io : Bool)
    → IsUpdateEntered t later now u row v io → row ≡ update_verdict t.state u false → io ≡ true → (v ≡ Broken) × (t.state.broken ≡ false)
entered_append t later now u row v io e r h =
    let taken : row ≡ Taken = e.append h in (
      e.verdict_is ∙ (ap (λ (w : UpdateVerdict). with_written io w) taken ∙ ap (λ (b : Bool). with_written b Taken) h),
      update_whole t.state u (sym r ∙ taken),
    )

-- what was entered is the machine's
pub entered_update : (t later : Held) (now : Moment) (u : KdcUpdate) (row v : UpdateVerdict) (io : Bool)
    → IsUpdateEntered t later now u row v io → row ≡ update_verdict t.state u false → IsUpdate t.state u io v
entered_update t later now u row v io e r = record {
  verdict_is = e.verdict_is ∙ (ap (with_written io) r ∙ written_row u (keys_held t.state (name_in u)) t.state.broken io);
  append = entered_append t later now u row v io e r;
}

-- ---- its parts

or_false : (b : Bool) → b ≡ (b || false)
or_false true = refl
or_false false = refl

or_true : (b : Bool) → true ≡ (b || true)
or_true true = refl
or_true false = refl

not_written : (v : UpdateVerdict) → is_taken v ≡ false → v ≡ with_written false v
not_written NoSuchPrincipal h = refl
not_written NotNewer h = refl
not_written Broken h = refl
not_written Taken h = cc

not_lost : (v : UpdateVerdict) (b : Bool) → b ≡ (b || (is_lost v && false))
not_lost NoSuchPrincipal b = or_false b
not_lost NotNewer b = or_false b
not_lost Broken b = or_false b
not_lost Taken b = or_false b

not_taken : (t : Bool) (m n : ℕ) → t ≡ false → n ≡ (if t then m else n)
not_taken true m n h = cc
not_taken false m n h = refl

kept_keys : (s : State) (now : Moment) (u : KdcUpdate) (v : UpdateVerdict) → is_taken v ≡ false
    → (name : Name) → keys_held s name ≡ keys_held (after_update v s now u false) name
kept_keys s now u v h name = sym (keys_updated v s now u false name ∙ rw h refl)

agrees_rest : (s : State) (now : Moment) (u : KdcUpdate) (v : UpdateVerdict) → is_taken v ≡ false → (t : Held) → s ≡ t.state
    → Agrees (with_event now [] t).state (after_update v t.state now u false)
agrees_rest s now u v h t e = record {
  fixed = refl;
  principals = kept_keys t.state now u v h;
  clock = refl;
  broken = not_lost v t.state.broken;
  count = refl;
  ids = λ id y. used_swept (clock_at t.state now) t.state.used id y;
}

-- an update that appends nothing
pub update_rest : (t later : Held) (now : Moment) (u : KdcUpdate) (row : UpdateVerdict)
    → later ≡ with_event now [] t → is_taken row ≡ false → IsUpdateEntered t later now u row row false
update_rest t later now u row w h = subst (λ (x : Held). IsUpdateEntered t x now u row row false) (sym w) (record {
  verdict_is = not_written row h;
  append = λ io. cc;
  agrees = agrees_rest t.state now u row h t refl;
  broken = or_false t.state.broken;
  events = refl;
  seen = not_taken (is_taken row) (t.seen + 1) t.seen h;
  max_entries = refl;
})

agrees_placed : (t : Held) (now : Moment) (u : KdcUpdate) (p : Placement) → IsPlaced t.state (name_in u) (keys_left t.state u) p
    → Agrees (with_update p (with_event now [] t)).state (after_update Taken t.state now u false)
agrees_placed t now u p placed = record {
  fixed = refl;
  principals = λ name. placed.keys_then name ∙ sym (keys_with (name_in u) (keys_left t.state u) t.state.principals name);
  clock = refl;
  broken = or_false t.state.broken;
  count = refl;
  ids = λ id y. used_swept (clock_at t.state now) t.state.used id y;
}

agrees_broken : (t : Held) (now : Moment) (u : KdcUpdate) → Agrees (with_broken (with_event now [] t)).state (after_update Broken t.state now u true)
agrees_broken t now u = record {
  fixed = refl;
  principals = λ name. refl;
  clock = refl;
  broken = or_true t.state.broken;
  count = refl;
  ids = λ id y. used_swept (clock_at t.state now) t.state.used id y;
}

written_at : (t : Held) (now : Moment) (u : KdcUpdate) (row : UpdateVerdict) (io : Bool) (p : Placement)
    → row ≡ Taken → IsPlaced t.state (name_in u) (keys_left t.state u) p
    → IsUpdateEntered t (if io then with_broken (with_event now [] t) else with_update p (with_event now [] t)) now u row (with_written io Taken) io
written_at t now u row true p r placed = record {
  verdict_is = sym (ap (with_written true) r);
  append = λ h. r;
  agrees = agrees_broken t now u;
  broken = or_true t.state.broken;
  events = refl;
  seen = refl;
  max_entries = refl;
}
written_at t now u row false p r placed = record {
  verdict_is = sym (ap (with_written false) r);
  append = λ h. r;
  agrees = agrees_placed t now u p placed;
  broken = or_false t.state.broken;
  events = refl;
  seen = refl;
  max_entries = refl;
}

-- an update that appends its record
pub update_written : (t w later : Held) (now : Moment) (u : KdcUpdate) (row v : UpdateVerdict) (io : Bool) (p : Placement)
    → w ≡ with_event now [] t → row ≡ Taken → IsPlaced t.state (name_in u) (keys_left t.state u) p
    → later ≡ (if io then with_broken w else with_update p w) → v ≡ with_written io Taken → IsUpdateEntered t later now u row v io
update_written t w later now u row v io p a r placed b c =
    let then_is : later ≡ (if io then with_broken (with_event now [] t) else with_update p (with_event now [] t)) =
    b ∙ ap (λ (x : Held). if io then with_broken x else with_update p x) a in
    subst (λ (x : Held). IsUpdateEntered t x now u row v io) (sym then_is)
    (subst (λ (x : UpdateVerdict). IsUpdateEntered t (if io then with_broken (with_event now [] t)
    else with_update p (with_event now [] t)) now u row x io) (sym c) (written_at t now u row io p r placed))

-- ---- what the sink tells

-- as before, where nothing is appended
pub told_update_rest : (s : State) (u : KdcUpdate) (row : UpdateVerdict) (told : Option (List ℕ))
    → is_taken row ≡ false → told ≡ option_map (λ xs. xs ++ event_appended s (Update u row)) told
told_update_rest s u row told h = rw h (told_nothing told)

written_tells : (s : State) (u : KdcUpdate) (bytes : List ℕ) (io : Bool) (told : Option (List ℕ)) → bytes ≡ update_record s u
    → (if io then told else option_map (λ xs. xs ++ bytes) told)
    ≡ option_map (λ xs. xs ++ event_appended s (Update u (with_written io Taken))) told
written_tells s u bytes true told h = told_nothing told
written_tells s u bytes false told h = ap (λ (ys : List ℕ). option_map (λ (xs : List ℕ). xs ++ ys) told) h

-- its record more, unless the append failed
pub told_update : (s : State) (u : KdcUpdate) (bytes : List ℕ) (io : Bool) (v : UpdateVerdict) (before later : Option (List ℕ))
    → bytes ≡ update_record s u → v ≡ with_written io Taken → later ≡ (if io then before else option_map (λ xs. xs ++ bytes) before)
    → later ≡ option_map (λ xs. xs ++ event_appended s (Update u v)) before
told_update s u bytes io v before later r c e =
    e ∙ (written_tells s u bytes io before r
    ∙ ap (λ (x : UpdateVerdict). option_map (λ (xs : List ℕ). xs ++ event_appended s (Update u x)) before) (sym c))

-- ---- what was prepared

-- the plan that was prepared
pub ready_plan : (t : Held) (p : PreparedUpdate) (n : Plan) → IsUpdateReady t p → p.plan ≡ Some n → (p.row ≡ Taken) × IsNextPlan t.state p.update n
ready_plan t p n r e = subst (λ (x : Option Plan). IsUpdatePlanned t.state p.row p.update x) e r.plan

-- without one it isn't taken
pub ready_rest : (t : Held) (p : PreparedUpdate) → IsUpdateReady t p → p.plan ≡ None → is_taken p.row ≡ false
ready_rest t p r e = subst (λ (x : Option Plan). IsUpdatePlanned t.state p.row p.update x) e r.plan

pub entered_rest : (t w later : Held) (p : PreparedUpdate) (said : UpdateVerdict × Bool) → IsUpdateReady t p → p.plan ≡ None
    → w ≡ with_event p.moment [] t → later ≡ w → said ≡ (p.row, false) → IsUpdateEntered t later p.moment p.update p.row said.0 said.1
entered_rest t w later p said r e a b c =
    subst (λ (x : UpdateVerdict × Bool). IsUpdateEntered t later p.moment p.update p.row x.0 x.1) (sym c)
    (update_rest t later p.moment p.update p.row (b ∙ a) (ready_rest t p r e))

pub entered_plan : (t w later : Held) (p : PreparedUpdate) (n : Plan) (said wrote : UpdateVerdict × Bool) → IsUpdateReady t p → p.plan ≡ Some n
    → w ≡ with_event p.moment [] t → later ≡ (if wrote.1 then with_broken w else with_update n.placement w) → said ≡ wrote
    → wrote.0 ≡ with_written wrote.1 Taken → IsUpdateEntered t later p.moment p.update p.row said.0 said.1
entered_plan t w later p n said wrote r e a b c v =
    let plan = ready_plan t p n r e in
    subst (λ (x : UpdateVerdict × Bool). IsUpdateEntered t later p.moment p.update p.row x.0 x.1) (sym c)
    (update_written t w later p.moment p.update p.row wrote.0 wrote.1 n.placement a plan.0 plan.1.placed b v)

pub told_rest : (t : Held) (p : PreparedUpdate) (v : UpdateVerdict) (before later : Option (List ℕ)) → IsUpdateReady t p → p.plan ≡ None
    → v ≡ p.row → later ≡ before → later ≡ option_map (λ xs. xs ++ event_appended t.state (Update p.update v)) before
told_rest t p v before later r e g f =
    f ∙ (told_update_rest t.state p.update p.row before (ready_rest t p r e)
    ∙ ap (λ (x : UpdateVerdict). option_map (λ (xs : List ℕ). xs ++ event_appended t.state (Update p.update x)) before) (sym g))

pub told_plan : (t : Held) (p : PreparedUpdate) (n : Plan) (io : Bool) (v : UpdateVerdict) (before later : Option (List ℕ))
    → IsUpdateReady t p → p.plan ≡ Some n → v ≡ with_written io Taken
    → later ≡ (if io then before else option_map (λ xs. xs ++ n.record.items) before)
    → later ≡ option_map (λ xs. xs ++ event_appended t.state (Update p.update v)) before
told_plan t p n io v before later r e c f =
    told_update t.state p.update n.record.items io v before later (ready_plan t p n r e).1.record_of c f
