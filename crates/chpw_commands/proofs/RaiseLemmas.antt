-- What the machine answers to a raise, from what the table decided.
use Rattle.std.proofs.Common.{◌≡◌, ℕ, ◌+◌, ◌<◌, List, [], ◌∷◌, ◌++◌, Bool, true, false, ◌&&◌, ◌||◌, not, if◌then◌else◌, refl, sym, ◌∙◌, ap, subst}
use Rattle.std.specs.Prelude.{option_map, nat_le}
use Rattle.chpw_table.specs.declared.times.Moment.{Moment}
use Rattle.chpw_table.specs.declared.raising.Raise.{Raise}
use Rattle.chpw_table.specs.declared.raising.RaiseVerdict.{RaiseVerdict}
use Rattle.chpw_table.specs.declared.raising.RaiseVerdict.TheVariants.{NotHigher, Broken, Raised}
use Rattle.chpw_table.specs.State.{State, new_count}
use Rattle.chpw_table.specs.Raising.{raise_verdict, is_raised, step_raise, IsRaise}
use Rattle.chpw_record.specs.Records.{raise_bytes}
use Rattle.chpw_table.specs.Journal.{raise_appended}
use Rattle.chpw_table.specs.Agreement.{Held, Agrees}
use Rattle.chpw_commands.specs.declared.drill.printed.Response.{Response}
use Rattle.chpw_commands.specs.declared.drill.printed.Response.TheVariants.{Told, Full}
use Rattle.chpw_commands.specs.declared.drill.running.Drill.{Drill}
use Rattle.chpw_commands.specs.declared.drill.sink.RequestSink.{RequestSink}
use Rattle.chpw_commands.specs.Stages.{Machine, raise_fails, response_to_raise, machine_raised}
use Rattle.chpw_commands.specs.Following.{Runs}
use Rattle.chpw_commands.proofs.AppendLemmas.{failed_of, told_of, io_taken, io_failing}
use Rattle.chpw_commands.proofs.RespondLemmas.{is_below, is_full}

-- a record of seven bytes is not none
not_recorded : (b : Bool) (count : ℕ) → [] ≡ (if b then raise_bytes count else []) → b ≡ false
not_recorded true count h = cc
not_recorded false count h = refl

-- of a count that is not higher (c), and a journal that is broken (b)
io_of_row : (c b io : Bool) (v : RaiseVerdict) → v ≡ (if c then NotHigher else if b || io then Broken else Raised)
    → (io ≡ true → (v ≡ Broken) × (b ≡ false)) → is_raised v ≡ false
    → io ≡ is_raised (if c then NotHigher else if b || false then Broken else Raised)
io_of_row true b true v e h f = let u : NotHigher ≡ Broken = sym e ∙ (h refl).0 in cc
io_of_row true b false v e h f = refl
io_of_row false true true v e h f = let u : true ≡ false = (h refl).1 in cc
io_of_row false false true v e h f = refl
io_of_row false true false v e h f = refl
io_of_row false false false v e h f = let u : true ≡ false = sym (ap is_raised e) ∙ f in cc

-- the append failed exactly where one was made and the sink fails
io_is : (fails io : Bool) (k : RequestSink) (s : State) (count : ℕ) (v : RaiseVerdict) → IsRaise s count io v →
    failed_of k ≡ (if io then failed_of (record { fails = fails; failed = 0 }) + 1 else failed_of (record { fails = fails; failed = 0 })) →
    told_of k ≡ option_map (λ xs. xs ++ raise_appended count v) (told_of (record { fails = fails; failed = 0 })) →
    io ≡ (fails && is_raised (raise_verdict s count false))
io_is false io k s count v d h e = io_taken k.fails k.failed io e h
io_is true io k s count v d h e =
    io_of_row (nat_le count (new_count s)) s.broken io v d.verdict_is d.append (not_recorded (is_raised v) count
    (io_failing k.fails (raise_appended count v) e))

module _ (d : Drill) (now : Moment) (count : ℕ) (x : Raise) (k : RequestSink) (t : Held)
    (legal : (s : State) → Agrees d.table.state s → IsRaise s count x.io_failed x.verdict)
    (steps : (s : State) → Agrees d.table.state s → Agrees t.state (step_raise s now count x.io_failed))
    (io : failed_of k ≡ (if x.io_failed then failed_of (record { fails = d.fails; failed = 0 }) + 1 else failed_of (record { fails = d.fails; failed = 0 })))
    (tells : told_of k ≡ option_map (λ xs. xs ++ raise_appended count x.verdict) (told_of (record { fails = d.fails; failed = 0 })))
    (room : d.table.events < d.table.max_entries) (m : Machine) (r : Runs d m) where
  same_io : x.io_failed ≡ raise_fails m count
  same_io = io_is d.fails x.io_failed k m.state count x.verdict (legal m.state r.state) io tells
      ∙ ap (λ (b : Bool). b && is_raised (raise_verdict m.state count false)) r.fails

  low : m.events < m.max_entries
  low = rw (← r.events, ← r.max_entries) room

  pub told_is : Told x.verdict ≡ response_to_raise m count
  told_is = rw (is_below m.events m.max_entries low) (ap (λ (v : RaiseVerdict). Told v)
      ((legal m.state r.state).verdict_is ∙ ap (λ (b : Bool). raise_verdict m.state count b) same_io))

  pub raised_runs : t.events ≡ d.table.events + 1 → t.max_entries ≡ d.table.max_entries
      → Runs (record { table = t; realm = d.realm; fails = d.fails && not x.io_failed }) (machine_raised m now count)
  raised_runs events limit =
      let after : Runs (record { table = t; realm = d.realm; fails = d.fails && not x.io_failed }) (record {
        state = step_raise m.state now count (raise_fails m count);
        events = m.events + 1;
        max_entries = m.max_entries;
        fails = m.fails && not (raise_fails m count);
      }) = record {
        state = subst (λ (b : Bool). Agrees t.state (step_raise m.state now count b)) same_io (steps m.state r.state);
        events = events ∙ ap (λ (n : ℕ). n + 1) r.events;
        max_entries = limit ∙ r.max_entries;
        fails = ap (λ (b : Bool). b && not x.io_failed) r.fails ∙ ap (λ (b : Bool). m.fails && not b) same_io;
        realm = r.realm;
      } in
      rw (is_below m.events m.max_entries low) after

module _ (d : Drill) (now : Moment) (count : ℕ) (full : d.table.events ≡ d.table.max_entries) (m : Machine) (r : Runs d m) where
  none_left : m.events ≡ m.max_entries
  none_left = sym r.events ∙ (full ∙ r.max_entries)

  pub full_is : Full ≡ response_to_raise m count
  full_is = rw (is_full m.events m.max_entries none_left) refl

  pub full_runs : Runs d (machine_raised m now count)
  full_runs = rw (is_full m.events m.max_entries none_left) r
