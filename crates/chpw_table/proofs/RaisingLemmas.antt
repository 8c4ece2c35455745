-- What a raise does, put together from its parts.
use Rattle.std.proofs.Common.{◌≡◌, ℕ, ◌+◌, List, [], ◌++◌, Bool, true, false, ◌&&◌, ◌||◌, if◌then◌else◌, Option, refl, sym, ◌∙◌, ap, subst}
use Rattle.std.specs.Prelude.{nat_le, option_map}
use Rattle.chpw_table.specs.declared.times.Moment.{Moment}
use Rattle.chpw_table.specs.declared.request.RequestId.{RequestId}
use Rattle.chpw_table.specs.declared.raising.RaiseVerdict.{RaiseVerdict}
use Rattle.chpw_table.specs.declared.raising.RaiseVerdict.TheVariants.{NotHigher, Broken, Raised}
use Rattle.chpw_table.specs.State.{State, new_count}
use Rattle.chpw_table.specs.Times.{clock_at}
use Rattle.chpw_table.specs.Raising.{raise_verdict, is_raised, is_unwritten, after_raise, step_raise}
use Rattle.chpw_record.specs.Records.{raise_bytes}
use Rattle.chpw_table.specs.Journal.{raise_appended}
use Rattle.chpw_table.specs.Agreement.{Held, Agrees}
use Rattle.chpw_table.specs.Entering.{held_after, with_event, with_broken, with_raise, raise_written, held_raise, IsRaiseEntered}
use Rattle.chpw_table.proofs.HeldIdLemmas.{held_raise_agrees}
use Rattle.chpw_table.proofs.PreparingLemmas.{told_nothing}

-- an event that uses no id
pub event_alone : (t u : Held) (now : Moment) (ids : List RequestId) → u ≡ with_event now ids t → ids ≡ [] → u ≡ with_event now [] t
event_alone t u now ids h e = h ∙ ap (λ (xs : List RequestId). with_event now xs t) e

-- the state that a table holds after it
state_is : (s : State) (now : Moment) (count : ℕ) (io : Bool) (v : RaiseVerdict) (broken : Bool) (n : ℕ)
    → broken ≡ (s.broken || (is_unwritten v && io)) → n ≡ (if is_raised v then count else s.count)
    → record s { used = held_after (clock_at s now) s.used []; clock = clock_at s now; broken = broken; count = n } ≡ held_raise v s now count io
state_is s now count io v broken n b c = λ i. record s { used = held_after (clock_at s now) s.used []; clock = clock_at s now; broken = b i; count = c i }

or_false : (b : Bool) → b ≡ (b || false)
or_false true = refl
or_false false = refl

no_append : (v : RaiseVerdict) (b : Bool) → b ≡ (b || (is_unwritten v && false))
no_append NotHigher b = or_false b
no_append Broken b = or_false b
no_append Raised b = or_false b

not_raised : (b : Bool) (m n : ℕ) → b ≡ false → n ≡ (if b then m else n)
not_raised true m n h = cc
not_raised false m n h = refl

-- a raise that appends nothing
pub entered_rest : (t u : Held) (now : Moment) (count : ℕ) (row : RaiseVerdict)
    → u ≡ with_event now [] t → row ≡ raise_verdict t.state count false → is_raised row ≡ false
    → IsRaiseEntered t u now count row false
entered_rest t u now count row w e r = rw w (record {
  legal = record { verdict_is = e; append = λ h. cc };
  state = state_is t.state now count false row t.state.broken t.state.count (no_append row t.state.broken) (not_raised (is_raised row) count t.state.count r);
  events = refl;
  seen = not_raised (is_raised row) (t.seen + 1) t.seen r;
  max_entries = refl;
})

-- no test refuses what would be raised
past_tests : (low broken : Bool) → (if low then NotHigher else if broken || false then Broken else Raised) ≡ Raised → (low ≡ false) × (broken ≡ false)
past_tests true broken h = cc
past_tests false true h = cc
past_tests false false h = (refl, refl)

written_is : (low broken io : Bool) → low ≡ false → broken ≡ false → raise_written io ≡ (if low then NotHigher else if broken || io then Broken else Raised)
written_is low broken io h k = rw (h, k) refl

raised_row : (v : RaiseVerdict) → is_raised v ≡ true → v ≡ Raised
raised_row NotHigher h = cc
raised_row Broken h = cc
raised_row Raised h = refl

-- the verdict where no append fails
pub raised_verdict : (s : State) (count : ℕ) (row : RaiseVerdict)
    → row ≡ raise_verdict s count false → is_raised row ≡ true → raise_verdict s count false ≡ Raised
raised_verdict s count row e h = sym e ∙ raised_row row h

-- a raise whose journal is whole
pub raise_whole : (s : State) (count : ℕ) → raise_verdict s count false ≡ Raised → s.broken ≡ false
raise_whole s count h = (past_tests (nat_le count (new_count s)) s.broken h).1

-- a raise that appends its record
pub entered_written : (t w u : Held) (now : Moment) (count : ℕ) (io : Bool) (v : RaiseVerdict)
    → w ≡ with_event now [] t → raise_verdict t.state count false ≡ Raised
    → u ≡ (if io then with_broken w else with_raise count w) → v ≡ raise_written io → IsRaiseEntered t u now count v io
entered_written t w u now count true v a r b c =
    let past : (nat_le count (new_count t.state) ≡ false) × (t.state.broken ≡ false) = past_tests (nat_le count (new_count t.state)) t.state.broken r in
    let is : v ≡ raise_verdict t.state count true = c ∙ written_is (nat_le count (new_count t.state)) t.state.broken true past.0 past.1 in
    rw (b, a, c) (record {
      legal = record { verdict_is = sym c ∙ is; append = λ h. (refl, past.1) };
      state = state_is t.state now count true Broken true t.state.count (ap (λ (x : Bool). x || true) (sym past.1)) refl;
      events = refl;
      seen = refl;
      max_entries = refl;
    })
entered_written t w u now count false v a r b c =
    let past : (nat_le count (new_count t.state) ≡ false) × (t.state.broken ≡ false) = past_tests (nat_le count (new_count t.state)) t.state.broken r in
    let is : v ≡ raise_verdict t.state count false = c ∙ written_is (nat_le count (new_count t.state)) t.state.broken false past.0 past.1 in
    rw (b, a, c) (record {
      legal = record { verdict_is = sym c ∙ is; append = λ h. cc };
      state = state_is t.state now count false Raised t.state.broken count (or_false t.state.broken) refl;
      events = refl;
      seen = refl;
      max_entries = refl;
    })

-- what follows agrees with the step of the machine
pub entered_raise : (t u : Held) (now : Moment) (count : ℕ) (v : RaiseVerdict) (io : Bool)
    → IsRaiseEntered t u now count v io → Agrees u.state (step_raise t.state now count io)
entered_raise t u now count v io e =
    subst (λ (w : RaiseVerdict). Agrees u.state (after_raise w t.state now count io)) e.legal.verdict_is
    (subst (λ (x : State). Agrees x (after_raise v t.state now count io)) (sym e.state) (held_raise_agrees v t.state now count io))

-- ---- what the sink tells

-- as before, where nothing is appended
pub told_rest : (count : ℕ) (row : RaiseVerdict) (told : Option (List ℕ))
    → is_raised row ≡ false → told ≡ option_map (λ xs. xs ++ raise_appended count row) told
told_rest count row told h = rw h (told_nothing told)

written_tells : (count : ℕ) (io : Bool) (told : Option (List ℕ))
    → (if io then told else option_map (λ xs. xs ++ raise_bytes count) told)
    ≡ option_map (λ xs. xs ++ raise_appended count (raise_written io)) told
written_tells count true told = told_nothing told
written_tells count false told = refl

-- its record more, unless the append failed
pub told_raise : (count : ℕ) (io : Bool) (v : RaiseVerdict) (before later : Option (List ℕ)) → v ≡ raise_written io
    → later ≡ (if io then before else option_map (λ xs. xs ++ raise_bytes count) before) → later ≡ option_map (λ xs. xs ++ raise_appended count v) before
told_raise count io v before later r e =
    e ∙ (written_tells count io before ∙ ap (λ (x : RaiseVerdict). option_map (λ (xs : List ℕ). xs ++ raise_appended count x) before) (sym r))
