-- What is put was reported.
use Rattle.std.proofs.Common.{◌≡◌, ℕ, ◌+◌, List, [], ◌∷◌, ◌++◌, Bool, true, false, ◌&&◌, is_none, Option, Some, None, inl, inr}
use Rattle.std.proofs.Common.{◌⊎◌, refl, sym, ◌∙◌, ap, subst, append_assoc, if◌then◌else◌}
use Rattle.std.specs.List.{AllByRecursion}
use Rattle.chpw_rules.specs.declared.name.Name.{Name}
use Rattle.chpw_record.specs.declared.key.KeyRow.{KeyRow}
use Rattle.chpw_kdc.specs.declared.put.Put.{Put}
use Rattle.chpw_kdc.specs.declared.update.KdcUpdate.{KdcUpdate}
use Rattle.chpw_kdc.specs.Lines.{Request, list_keys, get, put}
use Rattle.chpw_kdc.specs.Mirrors.{Mirror}
use Rattle.chpw_kdc.specs.Paces.{may_ask, pace_lost, pace_at_fault}
use Rattle.chpw_kdc.specs.declared.pace.Pace.{Pace}
use Rattle.chpw_kdc.specs.Dialogs.{State, ticketed, is_of_change, changes_of, forgotten, after_fault, after_request}
use Rattle.chpw_kdc.specs.Dialogs.{request_by, first_request, put_in, get_in, or_else}
use Rattle.chpw_kdc.specs.Dialogs.{is_late, without_update}
use Rattle.chpw_kdc.specs.Answering.{without_first}
use Rattle.chpw_kdc.specs.Runs.{Event, holds, holds_none, fills, wants, loses_want, wants_comparison, connects, loses, asks, hears}
use Rattle.chpw_kdc.specs.Runs.{ticks, takes, decides, tells, behind, state_after, Tells, IsTold, PutsAreTold}
use Rattle.chpw_kdc.proofs.MirrorLemmas.{AllKeys, of_found, of_told, of_without}
use Rattle.chpw_kdc.proofs.EffectLemmas.{Waits, PutsRight, IsSettled, internal}
use Rattle.chpw_kdc.proofs.RunLemmas.{by_events, by_byte, IsHeard}

-- what holds of each key on its way
abbrev pub AllPuts : (Name → KeyRow → Type 0) → List Put → Type 0
AllPuts Q ps = AllByRecursion (λ (p : Put). Q p.name p.key) ps

pub of_one_more : (Q : Name → KeyRow → Type 0) (ps : List Put) (p : Put) → AllPuts Q ps → Q p.name p.key → AllPuts Q (ps ++ p ∷ [])
of_one_more Q [] p all q = (q, tt)
of_one_more Q (x ∷ xs) p all q = (all.0, of_one_more Q xs p all.1 q)

of_one_less : (Q : Name → KeyRow → Type 0) (ps : List Put) → AllPuts Q ps → AllPuts Q (without_first ps)
of_one_less Q [] all = tt
of_one_less Q (p ∷ ps) all = all.1

pub record Keeps (Q : Name → KeyRow → Type 0) (s : State) : Type 0 where
  pub mirror : AllKeys Q s.mirror
  pub puts : AllPuts Q s.puts

keys_if : (Q R : Name → KeyRow → Type 0) → ((n : Name) (k : KeyRow) → Q n k → R n k) → (es : Mirror) → AllKeys Q es → AllKeys R es
keys_if Q R f [] all = tt
keys_if Q R f (e ∷ es) all = (f e.0 e.1 all.0, keys_if Q R f es all.1)

puts_if : (Q R : Name → KeyRow → Type 0) → ((n : Name) (k : KeyRow) → Q n k → R n k) → (ps : List Put) → AllPuts Q ps → AllPuts R ps
puts_if Q R f [] all = tt
puts_if Q R f (p ∷ ps) all = (f p.name p.key all.0, puts_if Q R f ps all.1)

puts_kept_if : (Q : Name → KeyRow → Type 0) (b : Bool) (p : Put) (rest : List Put) → Q p.name p.key → AllPuts Q rest
    → AllPuts Q (if b then p ∷ rest else rest)
puts_kept_if Q true p rest one all = (one, all)
puts_kept_if Q false p rest one all = all

-- those of changes alone
puts_kept : (Q : Name → KeyRow → Type 0) (ps : List Put) → AllPuts Q ps → AllPuts Q (changes_of ps)
puts_kept Q [] all = tt
puts_kept Q (p ∷ ps) all = puts_kept_if Q (is_of_change p) p (changes_of ps) all.0 (puts_kept Q ps all.1)

-- ---- after an event

request_keeps : (Q : Name → KeyRow → Type 0) (now : ℕ) (s : State) (o : Option Request) → Keeps Q s → Keeps Q (after_request now o s)
request_keeps Q now s None k = k
request_keeps Q now s (Some list_keys) k = record { mirror = k.mirror; puts = k.puts }
request_keeps Q now s (Some (get name)) k = record { mirror = k.mirror; puts = k.puts }
request_keeps Q now s (Some (put name key)) k = record { mirror = k.mirror; puts = k.puts }

loss_keeps : (Q : Name → KeyRow → Type 0) (s : State) (p : Pace) → Keeps Q s → Keeps Q (record (forgotten s) { pace = p })
loss_keeps Q s p k = record { mirror = k.mirror; puts = puts_kept Q s.puts k.puts }

tick_keeps : (Q : Name → KeyRow → Type 0) (now : ℕ) (s : State) (b : Bool) → Keeps Q s → Keeps Q (if b then after_fault now s else s)
tick_keeps Q now s true k = loss_keeps Q s (pace_lost now (pace_at_fault s.pace)) k
tick_keeps Q now s false k = k

take_keeps : (Q : Name → KeyRow → Type 0) (s : State) (us : List KdcUpdate) → Keeps Q s → Keeps Q (without_update s us)
take_keeps Q s [] k = k
take_keeps Q s (u ∷ us) k = record { mirror = k.mirror; puts = k.puts }

right_keeps : (Q : Name → KeyRow → Type 0) (s t : State) → Keeps Q s → PutsRight s t → AllPuts Q t.puts
right_keeps Q s t k (inl same) = subst (AllPuts Q) (sym same) k.puts
right_keeps Q s t k (inr p) =
    subst (AllPuts Q) (sym p.3)
    (of_one_more Q s.puts (internal s.pace.began p.0 p.1) k.puts (of_found Q s.mirror p.0 p.1 k.mirror p.2))

heard_keeps : (Q : Name → KeyRow → Type 0) (ours : Name → Bool) (s t : State) (byte : ℕ) → Keeps Q s → IsHeard ours s byte t → Keeps Q t
heard_keeps Q ours s t byte k (inl e) = subst (Keeps Q) e (record { mirror = k.mirror; puts = k.puts })
heard_keeps Q ours s t byte k (inr h) = record {
  mirror = subst (AllKeys Q) (sym h.3.0) k.mirror;
  puts = (by_kind h.3.3);
}
  where
    by_kind : Waits s t ⊎ IsSettled s h.0 t → AllPuts Q t.puts
    by_kind (inl w) = right_keeps Q s t k w.0
    by_kind (inr d) = subst (AllPuts Q) (sym d.5) (of_one_less Q s.puts k.puts)

pub kept_behind : (Q : Name → KeyRow → Type 0) (s : State) (e : Event) → ((n : Name) (k : KeyRow) → Tells e n k → Q n k) → Keeps Q s → Keeps Q (behind s e)
kept_behind Q s (holds name key) told k = record { mirror = of_told Q s.mirror name key k.mirror (told name key (refl, refl)); puts = k.puts }
kept_behind Q s (holds_none name) told k = record { mirror = of_without Q s.mirror name k.mirror; puts = k.puts }
kept_behind Q s (fills name) told k = record { mirror = k.mirror; puts = k.puts }
kept_behind Q s (wants now name key) told k = record {
  mirror = of_told Q s.mirror name key k.mirror (told name key (refl, refl));
  puts = of_one_more Q s.puts (ticketed now name key (s.issued + 1)) k.puts (told name key (refl, refl));
}
kept_behind Q s loses_want told k = record { mirror = k.mirror; puts = k.puts }
kept_behind Q s wants_comparison told k = record { mirror = k.mirror; puts = k.puts }
kept_behind Q s (connects now) told k = record { mirror = k.mirror; puts = puts_kept Q s.puts k.puts }
kept_behind Q s (loses now) told k = loss_keeps Q s (pace_lost now s.pace) k
kept_behind Q s (asks now) told k = request_keeps Q now s (request_by now s) k
kept_behind Q s (hears ours now byte) told k =
    by_byte (Keeps Q) ours now s byte (loss_keeps Q s (pace_lost now (pace_at_fault s.pace)) k) (λ t h is. heard_keeps Q ours s t byte k is)
kept_behind Q s (ticks now) told k = tick_keeps Q now s (is_late now s) k
kept_behind Q s takes told k = take_keeps Q s s.updates k
kept_behind Q s decides told k = record { mirror = k.mirror; puts = k.puts }
kept_behind Q s tells told k = record { mirror = k.mirror; puts = k.puts }

-- ---- always

told_on : (events : List Event) (e : Event) (n : Name) (k : KeyRow) → IsTold events n k → IsTold (events ++ e ∷ []) n k
told_on events e n k t = record {
  before = t.before;
  event = t.event;
  later = t.later ++ e ∷ [];
  parts = ap (λ (xs : List Event). xs ++ e ∷ []) t.parts ∙ append_assoc t.before (t.event ∷ t.later) (e ∷ []);
  tells = t.tells;
}

told_now : (events : List Event) (e : Event) (n : Name) (k : KeyRow) → Tells e n k → IsTold (events ++ e ∷ []) n k
told_now events e n k t = record { before = events; event = e; later = []; parts = refl; tells = t }

pub always_told : (start : ℕ) (events : List Event) → Keeps (IsTold events) (state_after start events)
always_told start events =
    by_events start (λ (es : List Event) (s : State). Keeps (IsTold es) s) (record { mirror = tt; puts = tt })
    (λ done s e is k. kept_behind (IsTold (done ++ e ∷ [])) s e (told_now done e) (record {
      mirror = keys_if (IsTold done) (IsTold (done ++ e ∷ [])) (told_on done e) s.mirror k.mirror;
      puts = puts_if (IsTold done) (IsTold (done ++ e ∷ [])) (told_on done e) s.puts k.puts;
    })) events

-- ---- what is put

pub allowed : (o : Bool) (next : Option Request) (r : Request) → (if o then next else None) ≡ Some r → next ≡ Some r
allowed true next r h = h
allowed false next r h = cc

no_list : (b : Bool) (name : Name) (key : KeyRow) → (if b then Some list_keys else None) ≡ Some (put name key) → ⊥
no_list true name key h = cc
no_list false name key h = cc

pub no_put : (names : List Name) (b : Bool) (name : Name) (key : KeyRow)
    → or_else (get_in names) (if b then Some list_keys else None) ≡ Some (put name key) → ⊥
no_put [] b name key h = no_list b name key h
no_put (n ∷ ns) b name key h = cc

of_put : (Q : Name → KeyRow → Type 0) (ps : List Put) (names : List Name) (b : Bool) (name : Name) (key : KeyRow)
    → AllPuts Q ps → or_else (put_in ps) (or_else (get_in names) (if b then Some list_keys else None)) ≡ Some (put name key) → Q name key
of_put Q [] names b name key puts h = absurd (no_put names b name key h)
of_put Q (p ∷ ps) names b name key puts h =
    let n : p.name ≡ name = cc in
    let k : p.key ≡ key = cc in
    subst (λ (m : Name). Q m key) n (subst (λ (l : KeyRow). Q p.name l) k puts.0)

pub puts_are_told : PutsAreTold
puts_are_told start events now name key h = done (state_after start events) (always_told start events) h
  where
    done : (s : State) → Keeps (IsTold events) s → request_by now s ≡ Some (put name key) → IsTold events name key
    done s k g =
        of_put (IsTold events) s.puts s.gets _ name key k.puts
        (allowed (is_none s.asked && may_ask now s.pace) (first_request now s) (put name key) g)
