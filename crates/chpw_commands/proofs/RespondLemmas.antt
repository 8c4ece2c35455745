-- What the machine answers, from what the table decided.
use Rattle.std.proofs.Common.{◌≡◌, ◌≢◌, ℕ, ◌+◌, ◌<◌, List, [], ◌∷◌, ◌++◌, Bool, true, false, ◌&&◌, not}
use Rattle.std.proofs.Common.{if◌then◌else◌, Option, Some, None, refl, sym, ◌∙◌, ap, subst, arith}
use Rattle.std.specs.Prelude.{◌==◌, option_map}
use Rattle.std.proofs.lemmas.Bool.Decides.{nat_tests}
use Rattle.chpw_table.specs.declared.verdict.Verdict.{Verdict}
use Rattle.chpw_table.specs.declared.outcome.DecideFault.{DecideFault}
use Rattle.chpw_table.specs.declared.outcome.Outcome.{Outcome}
use Rattle.chpw_table.specs.declared.outcome.DecideFault.TheVariants as fault
use Rattle.chpw_table.specs.State.{State}
use Rattle.chpw_table.specs.Verdicts.{is_done}
use Rattle.chpw_table.specs.Decision.{verdict}
use Rattle.chpw_table.specs.Step.{step}
use Rattle.chpw_table.specs.History.{IsDecided, missing}
use Rattle.chpw_table.specs.Agreement.{Held, Agrees}
use Rattle.chpw_table.specs.Outcomes.{Steps, Writes}
use Rattle.chpw_table.specs.Refusals.{IsFirst}
use Rattle.chpw_commands.specs.declared.drill.asking.Asked.{Asked}
use Rattle.chpw_commands.specs.declared.drill.printed.Response.{Response}
use Rattle.chpw_commands.specs.declared.drill.printed.Response.TheVariants.{Said, Need, Full}
use Rattle.chpw_commands.specs.declared.drill.running.Drill.{Drill}
use Rattle.chpw_commands.specs.declared.drill.sink.RequestSink.{RequestSink}
use Rattle.chpw_commands.specs.Stages.{Machine, append_fails, response_at, response_to, machine_after}
use Rattle.chpw_commands.specs.Following.{Runs, refusal_of}
use Rattle.chpw_commands.proofs.AppendLemmas.{failed_of, told_of, io_is}

pub is_below : (m n : ℕ) → m < n → (m == n) ≡ false
is_below m n h = grind (arith, nat_tests)

pub is_full : (m n : ℕ) → m ≡ n → (m == n) ≡ true
is_full m n h = grind (arith, nat_tests)

module _ (d : Drill) (a : Asked) (x : Outcome) (k : RequestSink) (t : Held) (c : Steps d.table t a.now a.opened x)
    (w : Writes failed_of told_of d.table.state (record { fails = d.fails; failed = 0 }) k a.opened x) (m : Machine) (r : Runs d m) where
  same_io : x.io_failed ≡ append_fails m a
  same_io = io_is d.fails x.io_failed k m.state a.now a.opened x.verdict (c.legal m.state r.state) w.io (w.tells m.state r.state)
      ∙ ap (λ (b : Bool). b && is_done (verdict m.state a.now a.opened false)) r.fails

  pub said_is : Said x.verdict ≡ response_to m a
  said_is =
      let here : IsDecided m.state a.now a.opened x.io_failed x.verdict = c.legal m.state r.state in
      let low : m.events < m.max_entries = rw (← r.events, ← r.max_entries) c.room in
      rw (is_below m.events m.max_entries low, here.derived)
      (ap (λ (v : Verdict). Said v) (here.verdict_is ∙ ap (λ (b : Bool). verdict m.state a.now a.opened b) same_io))

  pub runs_on : Runs (record { table = t; realm = d.realm; fails = d.fails && not x.io_failed }) (machine_after (response_to m a) m a)
  runs_on =
      let after : Runs (record { table = t; realm = d.realm; fails = d.fails && not x.io_failed }) (machine_after (Said x.verdict) m a) = record {
        state = subst (λ (b : Bool). Agrees t.state (step m.state a.now a.opened b)) same_io (c.agrees m.state r.state);
        events = c.events ∙ ap (λ (n : ℕ). n + 1) r.events;
        max_entries = c.max_entries ∙ r.max_entries;
        fails = ap (λ (b : Bool). b && not x.io_failed) r.fails ∙ ap (λ (b : Bool). m.fails && not b) same_io;
        realm = r.realm;
      } in
      subst (λ (y : Response). Runs (record { table = t; realm = d.realm; fails = d.fails && not x.io_failed }) (machine_after y m a)) said_is after

needed : (ns : List ℕ) (v : Verdict) → ns ≢ [] → response_at ns v ≡ Need ns
needed [] v f = absurd (f refl)
needed (n ∷ ns) v f = refl

module _ (d : Drill) (a : Asked) (m : Machine) (r : Runs d m) where
  pub refused_is : (f : DecideFault) (x : Response) → IsFirst d.table (missing m.state a.now a.opened) f → refusal_of f ≡ Some x → x ≡ response_to m a
  refused_is fault.Full x first e =
      let full : m.events ≡ m.max_entries = sym r.events ∙ (first ∙ r.max_entries) in
      let this : x ≡ Full = cc in
      rw (is_full m.events m.max_entries full) this
  refused_is (fault.NeedKeys given) x first e =
      let low : m.events < m.max_entries = rw (← r.events, ← r.max_entries) first.0 in
      let this : x ≡ Need given = cc in
      rw (
        is_below m.events m.max_entries low,
        needed (missing m.state a.now a.opened)
            (verdict m.state a.now a.opened (append_fails m a)) first.1,
      ) (this ∙ ap (λ (ns : List ℕ). Need ns) first.2)
  refused_is fault.Memory x first e = cc

  stays : (f : DecideFault) (x : Response) → refusal_of f ≡ Some x → machine_after x m a ≡ m
  stays fault.Full x e = let this : x ≡ Full = cc in rw this refl
  stays (fault.NeedKeys given) x e = let this : x ≡ Need given = cc in rw this refl
  stays fault.Memory x e = cc

  pub refused_runs : (f : DecideFault) (x : Response) → IsFirst d.table (missing m.state a.now a.opened) f
      → refusal_of f ≡ Some x → Runs d (machine_after (response_to m a) m a)
  refused_runs f x first e =
      let same : machine_after (response_to m a) m a ≡ m = ap (λ (y : Response). machine_after y m a) (sym (refused_is f x first e)) ∙ stays f x e in
      rw same r
