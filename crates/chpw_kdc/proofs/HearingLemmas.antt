-- Faults of lines, and bytes heard one after the other.
use Rattle.std.proofs.Common.{◌≡◌, ℕ, List, [], ◌∷◌, ◌++◌, Bool, Result, Ok, Err, refl, sym, ◌∙◌, ap, inl, inr, subst}
use Rattle.std.proofs.Common.{append_assoc, append-nil, ◌-◌, ◌≤◌, ◌<◌, length, get_or, take, drop, false, arith, IfErr}
use Rattle.std.specs.Result.{IsErrAnd}
use Rattle.std.proofs.lemmas.Grind.{common_steps}
use Rattle.chpw_rules.specs.declared.name.Name.{Name}
use Rattle.chpw_kdc.specs.declared.answer.Answer.{Answer}
use Rattle.chpw_kdc.specs.declared.fault.LineFault.{LineFault}
use Rattle.chpw_kdc.specs.declared.fault.LineFault.TheVariants as line
use Rattle.chpw_kdc.specs.declared.fault.ProtocolFault.{ProtocolFault}
use Rattle.chpw_kdc.specs.Faults.{IsFault, ReadUnlessMemory, fault_of_line}
use Rattle.chpw_kdc.specs.Dialogs.{State, after_fault}
use Rattle.chpw_kdc.specs.Lines.{is_changed}
use Rattle.chpw_kdc.specs.Answering.{after_read, after_byte, after_bytes, and_then, awaiting, each, of_asked}
use Rattle.chpw_kdc.specs.Answers.{FaultsIn, SameLost}

-- a line that is no answer
pub line_fault : (ours : Name → Bool) (now : ℕ) (s : State) (read : Result Answer LineFault) (why : LineFault)
    → ReadUnlessMemory {A = Answer} (Err why) read → IsFault (after_read ours now s read) (fault_of_line why)
line_fault ours now s read why (inl none) =
    let is : why ≡ line.Memory = cc in
    inl (ap fault_of_line is)
line_fault ours now s read why (inr is) =
    inr (ap (λ (r : Result Answer LineFault). after_read ours now s r) (sym is))

-- as `?` hands it on
pub handed_on : {E : Type 0} (r : Result E ProtocolFault) (why : LineFault) (defined : Result State ProtocolFault)
    → IsErrAnd r (λ f. f ≡ fault_of_line why) → IsFault defined (fault_of_line why) → IfErr r (IsFault defined)
handed_on (Ok x) why defined h wrong = absurd h
handed_on (Err f) why defined h wrong = subst (IsFault defined) (sym h) wrong

-- the fault of an answer
read_is : (ours : Name → Bool) (now : ℕ) (s : State) (a : Answer) (read : Result Answer LineFault)
    → ReadUnlessMemory (Ok a) read → is_changed a ≡ false → after_read ours now s read ≡ of_asked ours now s.asked (awaiting now s) a
read_is ours now s a read (inl none) other = absurd cc
read_is ours now s a read (inr is) other =
    ap (λ (r : Result Answer LineFault). after_read ours now s r) (sym is) ∙ rw other

pub answered_fault : {E : Type 0} (ours : Name → Bool) (now : ℕ) (s : State) (a : Answer) (read : Result Answer LineFault) (r : Result E ProtocolFault)
    → ReadUnlessMemory (Ok a) read → is_changed a ≡ false → IfErr r (IsFault (of_asked ours now s.asked (awaiting now s) a))
    → IfErr r (IsFault (after_read ours now s read))
answered_fault ours now s a read r is other h =
    subst (λ (d : Result State ProtocolFault). IfErr r (IsFault d)) (sym (read_is ours now s a read is other)) h

-- ---- one after the other

and_then_assoc : (r : Result State ProtocolFault) (f g : State → Result State ProtocolFault)
    → and_then (and_then r f) g ≡ and_then r (λ t. and_then (f t) g)
and_then_assoc (Ok t) f g = refl
and_then_assoc (Err why) f g = refl

and_then_same : (r : Result State ProtocolFault) (f g : State → Result State ProtocolFault) → ((t : State) → f t ≡ g t)
    → and_then r f ≡ and_then r g
and_then_same (Ok t) f g h = h t
and_then_same (Err why) f g h = refl

-- in two parts
pub each-append : {A : Type 0} (step : State → A → Result State ProtocolFault) (s : State) (xs ys : List A)
    → each step s (xs ++ ys) ≡ and_then (each step s xs) (λ t. each step t ys)
each-append step s [] ys = refl
each-append step s (x ∷ xs) ys =
    and_then_same (step s x) _ _ (λ t. each-append step t xs ys)
    ∙ sym (and_then_assoc (step s x) (λ t. each step t xs) (λ t. each step t ys))

-- and one more
pub each_more : {A : Type 0} (step : State → A → Result State ProtocolFault) (s t u : State) (xs : List A) (x : A)
    → each step s xs ≡ Ok t → step t x ≡ Ok u → each step s (xs ++ x ∷ []) ≡ Ok u
each_more step s t u xs x h g =
    each-append step s xs (x ∷ [])
    ∙ (ap (λ (r : Result State ProtocolFault). and_then r (λ v. each step v (x ∷ []))) h
    ∙ ap (λ (r : Result State ProtocolFault). and_then r (λ v. Ok v)) g)

-- ---- the bytes so far

pub record HeardUpTo (ours : Name → Bool) (now : ℕ) (s : State) (bytes rest : List ℕ) (t : State) : Type 0 where
  pub before : List ℕ
  pub parts : bytes ≡ before ++ rest
  pub heard : after_bytes ours now s before ≡ Ok t

pub none_heard : (ours : Name → Bool) (now : ℕ) (s : State) (bytes : List ℕ) → HeardUpTo ours now s bytes bytes s
none_heard ours now s bytes = record { before = []; parts = refl; heard = refl }

pub one_heard : (ours : Name → Bool) (now : ℕ) (s t u : State) (bytes rest : List ℕ) (byte : ℕ)
    → HeardUpTo ours now s bytes (byte ∷ rest) t → after_byte ours now t byte ≡ Ok u → HeardUpTo ours now s bytes rest u
one_heard ours now s t u bytes rest byte h g = record {
  before = h.before ++ byte ∷ [];
  parts = h.parts ∙ sym (append_assoc h.before (byte ∷ []) rest);
  heard = each_more (after_byte ours now) s t u h.before byte h.heard g;
}

pub all_heard : (ours : Name → Bool) (now : ℕ) (s t : State) (bytes : List ℕ) → HeardUpTo ours now s bytes [] t → after_bytes ours now s bytes ≡ Ok t
all_heard ours now s t bytes h =
    ap (λ (bs : List ℕ). after_bytes ours now s bs) (h.parts ∙ append-nil h.before) ∙ h.heard

pub fault_heard : (ours : Name → Bool) (now : ℕ) (s t u v : State) (bytes rest : List ℕ) (byte : ℕ) (why : ProtocolFault)
    → HeardUpTo ours now s bytes (byte ∷ rest) t → IsFault (after_byte ours now t byte) why → SameLost t u → v ≡ after_fault now u
    → FaultsIn ours now s bytes v why
fault_heard ours now s t u v bytes rest byte why h wrong same lost = record {
  before = h.before;
  byte = byte;
  later = rest;
  state = t;
  parts = h.parts;
  heard = h.heard;
  fault = wrong;
  lost = lost ∙ same now;
}

-- ---- as the loop has it

pub behind : (x : ℕ) (xs : List ℕ) → take (length (x ∷ xs) - 1) (drop 1 (x ∷ xs)) ≡ xs
behind x xs = grind (arith, common_steps)

pub heard_on : (ours : Name → Bool) (now : ℕ) (s t u : State) (bytes rest : List ℕ)
    → HeardUpTo ours now s bytes rest t → 1 ≤ length rest → after_byte ours now t (get_or rest 0 0) ≡ Ok u
    → HeardUpTo ours now s bytes (take (length rest - 1) (drop 1 rest)) u
heard_on ours now s t u bytes [] h some g = absurd (omega arith)
heard_on ours now s t u bytes (x ∷ xs) h some g = rw (behind x xs) (one_heard ours now s t u bytes xs x h g)

pub fault_on : (ours : Name → Bool) (now : ℕ) (s t u v : State) (bytes rest : List ℕ) (why : ProtocolFault)
    → HeardUpTo ours now s bytes rest t → 1 ≤ length rest → IsFault (after_byte ours now t (get_or rest 0 0)) why → SameLost t u
    → v ≡ after_fault now u → FaultsIn ours now s bytes v why
fault_on ours now s t u v bytes [] why h some wrong same lost = absurd (omega arith)
fault_on ours now s t u v bytes (x ∷ xs) why h some wrong same lost = fault_heard ours now s t u v bytes xs x why h wrong same lost

pub heard_to_end : (ours : Name → Bool) (now : ℕ) (s t : State) (bytes rest : List ℕ)
    → HeardUpTo ours now s bytes rest t → length rest < 1 → after_bytes ours now s bytes ≡ Ok t
heard_to_end ours now s t bytes [] h none = all_heard ours now s t bytes h
heard_to_end ours now s t bytes (x ∷ xs) h none = absurd (omega arith)
