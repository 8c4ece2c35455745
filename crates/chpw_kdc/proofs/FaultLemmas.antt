-- Losses, faults and pieces.
use Rattle.std.proofs.Common.{◌≡◌, ℕ, List, [], ◌∷◌, Bool, true, false, ◌&&◌, map, Result, Ok, Err, Option, Some, None, is_none}
use Rattle.std.proofs.Common.{if◌then◌else◌, refl, sym, ◌∙◌, ap, subst, length, ◌==◌, nat_le, arith}
use Rattle.std.proofs.lemmas.Bool.Decides.{nat_tests}
use Rattle.std.proofs.lemmas.Grind.{common_steps}
use Rattle.chpw_rules.specs.declared.name.Name.{Name}
use Rattle.chpw_kdc.specs.declared.fault.ProtocolFault.{ProtocolFault}
use Rattle.chpw_kdc.specs.declared.put.UnderWay.{UnderWay}
use Rattle.chpw_kdc.specs.declared.put.Put.{Put}
use Rattle.chpw_kdc.specs.Lines.{Request, list_keys, get}
use Rattle.chpw_kdc.specs.Paces.{may_ask, pace_lost, pace_at_fault}
use Rattle.chpw_kdc.specs.declared.pace.Pace.{Pace}
use Rattle.chpw_kdc.specs.Dialogs.{State, is_of_change, changes_of, forgotten, first_request, put_in, get_in, or_else, is_list_due}
use Rattle.chpw_kdc.specs.Answering.{after_byte, and_then, each}
use Rattle.chpw_kdc.specs.Runs.{Event, hears, or_lost, behind, run, SameKeys, FaultsChangeNothing, OneAtATime, Piecewise, PutsComeFirst}

kept_if : (b : Bool) (p : Put) (rest : List Put) → is_of_change p ≡ b → changes_of rest ≡ rest
    → changes_of (if b then p ∷ rest else rest) ≡ (if b then p ∷ rest else rest)
kept_if true p rest is same =
    ap (λ (c : Bool). if c then p ∷ changes_of rest else changes_of rest) is ∙ ap (λ (ps : List Put). p ∷ ps) same
kept_if false p rest is same = same

-- the puts of changes are all of changes
kept_twice : (ps : List Put) → changes_of (changes_of ps) ≡ changes_of ps
kept_twice [] = refl
kept_twice (p ∷ ps) = kept_if (is_of_change p) p (changes_of ps) refl (kept_twice ps)

lost_same : (s : State) (p : Pace) → SameKeys s (record (forgotten s) { pace = p })
lost_same s p = record { mirror = refl; puts = kept_twice s.puts; issued = refl; confirmed = refl }

pub faults_change_nothing : FaultsChangeNothing
faults_change_nothing s ours now byte why = (
  lost_same s (pace_lost now s.pace),
  λ h. subst (λ (r : Result State ProtocolFault). SameKeys s (or_lost now s r)) (sym h) (lost_same s (pace_lost now (pace_at_fault s.pace))),
)

none_under_way : (o : Option UnderWay) (may : Bool) (next : Option Request) (r : Request)
    → (if is_none o && may then next else None) ≡ Some r → o ≡ None
none_under_way None may next r h = refl
none_under_way (Some a) may next r h = cc

pub one_at_a_time : OneAtATime
one_at_a_time s now r h = none_under_way s.asked (may_ask now s.pace) (first_request now s) r h

one_byte : (step : State → ℕ → Result State ProtocolFault) (next : State → ℕ → State) (s t : State) (bs : List ℕ) (r : Result State ProtocolFault)
    → and_then r (λ u. each step u bs) ≡ Ok t → (u : State) × (r ≡ Ok u) × (each step u bs ≡ Ok t)
one_byte step next s t bs (Ok u) h = (u, refl, h)
one_byte step next s t bs (Err why) h = absurd cc

by_step : (step : State → ℕ → Result State ProtocolFault) (now : ℕ) (event : ℕ → Event)
    → ((s : State) (b : ℕ) → behind s (event b) ≡ or_lost now s (step s b))
    → (s t : State) (bytes : List ℕ) → each step s bytes ≡ Ok t → run s (map event bytes) ≡ t
by_step step now event is s t [] h = cc
by_step step now event is s t (b ∷ bs) h =
    let o = one_byte step (λ u c. u) s t bs (step s b) h in
    ap (λ (u : State). run u (map event bs)) (is s b ∙ ap (or_lost now s) o.1) ∙ by_step step now event is o.0 t bs o.2

pub piecewise : Piecewise
piecewise ours now s t bytes h = by_step (after_byte ours now) now (λ b. hears ours now b) (λ u b. refl) s t bytes h

-- ---- what is asked when

allowed : (o : Bool) (next : Option Request) (r : Request) → (if o then next else None) ≡ Some r → next ≡ Some r
allowed true next r h = h
allowed false next r h = cc

no_puts : (ps : List Put) (names : List Name) (b : Bool) (name : Name)
    → or_else (put_in ps) (or_else (get_in names) (if b then Some list_keys else None)) ≡ Some (get name) → ps ≡ []
no_puts [] names b name h = refl
no_puts (p ∷ ps) names b name h = cc

list_if : (b : Bool) → (if b then Some list_keys else None) ≡ Some list_keys → b ≡ true
list_if true h = refl
list_if false h = cc

nothing_else : (ps : List Put) (names : List Name) (b : Bool)
    → or_else (put_in ps) (or_else (get_in names) (if b then Some list_keys else None)) ≡ Some list_keys → (ps ≡ []) × (names ≡ []) × (b ≡ true)
nothing_else [] [] b h = (refl, refl, list_if b h)
nothing_else [] (n ∷ ns) b h = absurd cc
nothing_else (p ∷ ps) names b h = absurd cc

three : (a b c d : Bool) → ((a && b && c) && d) ≡ true → (b ≡ true) × (c ≡ true)
three true true true d h = (refl, refl)
three true true false d h = absurd cc
three true false c d h = absurd cc
three false b c d h = absurd cc

none_of : {A : Type 0} (xs : List A) → (length xs == 0) ≡ true → xs ≡ []
none_of [] h = refl
none_of (x ∷ xs) h = absurd (grind (arith, nat_tests, common_steps))

zero_of : (n : ℕ) → (n == 0) ≡ true → n ≡ 0
zero_of n h = grind (arith, nat_tests, common_steps)

pub puts_come_first : PutsComeFirst
puts_come_first s now = (
  λ name h. no_puts s.puts s.gets _ name (allowed (is_none s.asked && may_ask now s.pace) (first_request now s) (get name) h),
  λ h. (let n = nothing_else s.puts s.gets (is_list_due s && nat_le s.pace.compare_at now)
      (allowed (is_none s.asked && may_ask now s.pace) (first_request now s) list_keys h) in
      let t = three s.pace.is_due (length s.updates == 0) (s.deciding == 0) (nat_le s.pace.compare_at now) n.2 in
      (n.0, n.1, none_of s.updates t.0, zero_of s.deciding t.1)),
)
