-- For the proofs of a step: what a table becomes at an event, part by part.
use Rattle.std.specs.Prelude.{◌≡◌, ℕ, zero, suc, ◌+◌, ℤ, List, [], ◌∷◌, ◌<◌, length, map, take, slice_index_or, Some, Bool, true, ◌&&◌, if◌then◌else◌}
use Rattle.chpw_ordered_keys.specs.Trees.{with_first}
use Rattle.chpw_rules.specs.declared.name.Name.{Name}
use Rattle.chpw_rules.specs.Names.{is_name, is_same_name}
use Rattle.chpw_table.specs.declared.times.Moment.{Moment}
use Rattle.chpw_table.specs.declared.request.Opened.{Opened}
use Rattle.chpw_table.specs.declared.request.RequestId.{RequestId}
use Rattle.chpw_table.specs.declared.verdict.Verdict.{Verdict}
use Rattle.chpw_table.specs.declared.verdict.Verdict.TheVariants.{Broken, Done}
use Rattle.chpw_table.specs.declared.raising.RaiseVerdict.{RaiseVerdict}
use Rattle.chpw_table.specs.declared.raising.RaiseVerdict.TheVariants as raise
use Rattle.chpw_record.specs.declared.key.KeyRow.{KeyRow}
use Rattle.chpw_table.specs.declared.table.Principal.{Principal}
use Rattle.chpw_table.specs.State.{State, keys_held}
use Rattle.chpw_table.specs.Requests.{id_of}
use Rattle.chpw_table.specs.Verdicts.{adds_id, is_done}
use Rattle.chpw_table.specs.Times.{clock_at}
use Rattle.chpw_table.specs.Step.{after, with_key}
use Rattle.chpw_table.specs.Raising.{after_raise, is_raised, IsRaise}
use Rattle.chpw_table.specs.Agreement.{Held}
use Rattle.chpw_table.specs.Holding.{id_cmp, young_ids}

-- Done becomes Broken if the append failed
abbrev pub with_append : Bool → Verdict → Verdict
with_append io v = if is_done v && io then Broken else v

-- these keys replace those of the principal at a place
abbrev pub with_keys_at : ℕ → List KeyRow → List Principal → List Principal
with_keys_at n keys [] = []
with_keys_at zero keys (p ∷ ps) = record { name = p.name; keys = keys } ∷ ps
with_keys_at (suc n) keys (p ∷ ps) = p ∷ with_keys_at n keys ps

-- that, and one more change
abbrev pub with_change_at : ℕ → List KeyRow → Held → Held
with_change_at n keys t = record t { state = record t.state { principals = with_keys_at n keys t.state.principals }; seen = t.seen + 1 }

-- the principal of a name is at a place, where a new key for the name goes
pub record IsAt (s : State) (name : Name) (n : ℕ) (p : Principal) : Type 0 where
  pub within : n < length s.principals
  pub held : keys_held s name ≡ Some p.keys
  pub fits : is_name name ≡ true
  pub named : is_same_name (slice_index_or s.principals n p).name name ≡ true
  pub change : (kept : ℕ) (key : KeyRow) → map (with_key kept name key) s.principals ≡ with_keys_at n (take kept (key ∷ p.keys)) s.principals

-- the ids held at a clock, after one more is used
abbrev pub held_after : ℤ → List RequestId → List RequestId → List RequestId
held_after clock used ids = young_ids clock (with_first id_cmp used ids)

-- one more event, which uses these ids, and the clock moved on
abbrev pub with_event : Moment → List RequestId → Held → Held
with_event now ids t = record t {
  state = record t.state {
    used = held_after (clock_at t.state now) t.state.used ids;
    clock = clock_at t.state now;
  };
  events = t.events + 1;
}

-- the count is raised, and that is one more change
abbrev pub with_raise : ℕ → Held → Held
with_raise count t = record t { state = record t.state { count = count }; seen = t.seen + 1 }

-- the journal is broken
abbrev pub with_broken : Held → Held
with_broken t = record t { state = record t.state { broken = true } }

-- what a verdict leaves of what a table holds: as of a state, except for ids too old to be judged
abbrev pub held_state : Verdict → State → Moment → Opened → Bool → State
held_state v s now o io = record (after v s now o io) { used = held_after (clock_at s now) s.used (if adds_id v then id_of o ∷ [] else []) }

-- what a row does, whose append may fail
pub record IsEntered (before later : Held) (now : Moment) (o : Opened) (row v : Verdict) (io : Bool) : Type 0 where
  pub verdict_is : v ≡ with_append io row
  pub append : io ≡ true → row ≡ Done
  pub state : later.state ≡ held_state v before.state now o io
  pub events : later.events ≡ before.events + 1
  pub seen : later.seen ≡ (if is_done v then before.seen + 1 else before.seen)
  pub max_entries : later.max_entries ≡ before.max_entries

-- Raised becomes Broken if the append failed
abbrev pub raise_written : Bool → RaiseVerdict
raise_written io = if io then raise.Broken else raise.Raised

-- what a raise with this verdict leaves of what a table holds
abbrev pub held_raise : RaiseVerdict → State → Moment → ℕ → Bool → State
held_raise v s now count io = record (after_raise v s now count io) { used = held_after (clock_at s now) s.used [] }

-- what a raise does, whose append may fail
pub record IsRaiseEntered (before later : Held) (now : Moment) (count : ℕ) (v : RaiseVerdict) (io : Bool) : Type 0 where
  pub legal : IsRaise before.state count io v
  pub state : later.state ≡ held_raise v before.state now count io
  pub events : later.events ≡ before.events + 1
  pub seen : later.seen ≡ (if is_raised v then before.seen + 1 else before.seen)
  pub max_entries : later.max_entries ≡ before.max_entries
