-- What is kept whatever happens, and what a byte of the agent's does.
use Rattle.std.proofs.Common.{◌≡◌, ℕ, ◌+◌, ◌==◌, nat_le, List, [], ◌∷◌, ◌++◌, length, Bool, true, false, not, if◌then◌else◌}
use Rattle.std.proofs.Common.{Result, Ok, Err, inl, inr, ◌⊎◌, refl, sym, ◌∙◌, ap, subst, append_assoc, arith}
use Rattle.std.proofs.lemmas.List.{append-nil}
use Rattle.std.proofs.lemmas.Bool.Decides.{nat_tests}
use Rattle.std.proofs.lemmas.Grind.{common_steps}
use Rattle.chpw_rules.specs.declared.name.Name.{Name}
use Rattle.chpw_kdc.specs.declared.answer.Answer.{Answer}
use Rattle.chpw_kdc.specs.declared.fault.LineFault.{LineFault}
use Rattle.chpw_kdc.specs.declared.fault.ProtocolFault.{ProtocolFault}
use Rattle.chpw_kdc.specs.declared.fault.ProtocolFault.TheVariants as fault
use Rattle.chpw_kdc.specs.Lines.{answer_of}
use Rattle.chpw_kdc.specs.Dialogs.{State, at_start, after_fault}
use Rattle.chpw_kdc.specs.Answering.{after_byte, after_line, after_read, after_answer}
use Rattle.chpw_kdc.specs.Runs.{Event, or_lost, behind, run, state_after}
use Rattle.chpw_kdc.proofs.EffectLemmas.{Effect, effect}

pub run_append : (s : State) (xs ys : List Event) → run s (xs ++ ys) ≡ run (run s xs) ys
run_append s [] ys = refl
run_append s (x ∷ xs) ys = run_append (behind s x) xs ys

-- what holds at the start, and after each event more, holds always
pub by_events : (start : ℕ) (P : List Event → State → Type 0) → P [] (at_start start)
    → ((done : List Event) (s : State) (e : Event) → s ≡ state_after start done → P done s → P (done ++ e ∷ []) (behind s e))
    → (events : List Event) → P events (state_after start events)
by_events start P first step events = further [] (at_start start) refl first events
  where
    further : (done : List Event) (s : State) → s ≡ state_after start done → P done s → (rest : List Event) → P (done ++ rest) (run s rest)
    further done s is p [] = subst (λ (xs : List Event). P xs s) (sym (append-nil done)) p
    further done s is p (e ∷ es) =
        subst (λ (xs : List Event). P xs (run (behind s e) es)) (append_assoc done (e ∷ []) es)
        (further (done ++ e ∷ []) (behind s e) (ap (λ (t : State). behind t e) is ∙ sym (run_append (at_start start) done (e ∷ []))) (step done s e is p) es)

-- ---- a byte

byte_if : (c d e : Bool) (l : Result State ProtocolFault) (x t : State)
    → (if c then Err fault.NotConnected else if d then l else if e then Err fault.LineTooLong else Ok x) ≡ Ok t
    → ((d ≡ true) × (l ≡ Ok t)) ⊎ (x ≡ t)
byte_if true d e l x t h = absurd cc
byte_if false true e l x t h = inl (refl, h)
byte_if false false true l x t h = absurd cc
byte_if false false false l x t h = inr cc

-- the byte goes on a line, or is the newline of an answer
abbrev pub IsHeard : (Name → Bool) → State → ℕ → State → Type 0
IsHeard ours s byte t =
    (record s { heard = s.heard ++ byte ∷ [] } ≡ t) ⊎ ((a : Answer) × (byte ≡ 10) × (answer_of s.heard ≡ Ok a) × Effect ours s a t)

read_if : (ours : Name → Bool) (now : ℕ) (s t : State) (r : Result Answer LineFault)
    → after_read ours now (record s { heard = [] }) r ≡ Ok t
    → (a : Answer) × (r ≡ Ok a) × Effect ours s a t
read_if ours now s t (Ok a) h = (a, refl, effect ours now (record s { heard = [] }) t a h)
read_if ours now s t (Err why) h = absurd cc

newline : (byte : ℕ) → (byte == 10) ≡ true → byte ≡ 10
newline byte h = grind (arith, nat_tests, common_steps)

pub byte_effect : (ours : Name → Bool) (now : ℕ) (s t : State) (byte : ℕ) → after_byte ours now s byte ≡ Ok t → IsHeard ours s byte t
byte_effect ours now s t byte h =
    by_kind (byte_if (not s.pace.connected) (byte == 10) (nat_le 1024 (length s.heard + 1)) (after_line ours now s)
    (record s { heard = s.heard ++ byte ∷ [] }) t h)
  where
    by_kind : (((byte == 10) ≡ true) × (after_line ours now s ≡ Ok t)) ⊎ (record s { heard = s.heard ++ byte ∷ [] } ≡ t) → IsHeard ours s byte t
    by_kind (inl l) =
        let r = read_if ours now s t (answer_of s.heard) l.1 in
        inr (r.0, newline byte l.0, r.1, r.2)
    by_kind (inr e) = inl e

-- what holds after a byte that the agent says
pub by_byte : (P : State → Type 0) (ours : Name → Bool) (now : ℕ) (s : State) (byte : ℕ) → P (after_fault now s)
    → ((t : State) → after_byte ours now s byte ≡ Ok t → IsHeard ours s byte t → P t) → P (or_lost now s (after_byte ours now s byte))
by_byte P ours now s byte lost heard = by_result (after_byte ours now s byte) (λ t h. heard t h (byte_effect ours now s t byte h))
  where
    by_result : (r : Result State ProtocolFault) → ((t : State) → r ≡ Ok t → P t) → P (or_lost now s r)
    by_result (Ok t) h = h t refl
    by_result (Err why) h = lost

-- the same, where an answer is any that its definition lets through
pub by_line : (P : State → Type 0) (ours : Name → Bool) (now : ℕ) (s : State) (byte : ℕ) → P (after_fault now s)
    → P (record s { heard = s.heard ++ byte ∷ [] })
    → ((a : Answer) (t : State) → after_answer ours now (record s { heard = [] }) a ≡ Ok t → P t)
    → P (or_lost now s (after_byte ours now s byte))
by_line P ours now s byte lost goes_on answered =
    by_result (after_byte ours now s byte)
    (λ t h. by_kind t (byte_if (not s.pace.connected) (byte == 10) (nat_le 1024 (length s.heard + 1)) (after_line ours now s)
    (record s { heard = s.heard ++ byte ∷ [] }) t h))
  where
    by_read : (t : State) (r : Result Answer LineFault) → after_read ours now (record s { heard = [] }) r ≡ Ok t → P t
    by_read t (Ok a) h = answered a t h
    by_read t (Err why) h = absurd cc

    by_kind : (t : State) → (((byte == 10) ≡ true) × (after_line ours now s ≡ Ok t)) ⊎ (record s { heard = s.heard ++ byte ∷ [] } ≡ t) → P t
    by_kind t (inl l) = by_read t (answer_of s.heard) l.1
    by_kind t (inr e) = subst P e goes_on

    by_result : (r : Result State ProtocolFault) → ((t : State) → r ≡ Ok t → P t) → P (or_lost now s r)
    by_result (Ok t) h = h t refl
    by_result (Err why) h = lost
