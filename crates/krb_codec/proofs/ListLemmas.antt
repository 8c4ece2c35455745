-- Reading elements one after the other, as a loop does.
use Rattle.std.proofs.Common.{◌≡◌, ℕ, zero, suc, ◌≤◌, ◌<◌, ◌==◌, true, false, List, [], ◌∷◌, ◌++◌}
use Rattle.std.proofs.Common.{Result, Ok, Err, refl, sym, ap, ◌∙◌, append_assoc, arith, length}
use Rattle.std.proofs.lemmas.List.{append-nil}
use Rattle.std.proofs.lemmas.Bool.{eqb-false}
use Rattle.krb_codec.specs.declared.fault.DerFault.{DerFault}
use Rattle.krb_codec.specs.declared.fault.ReadError.{ReadError}
use Rattle.krb_codec.specs.declared.fault.ReadError.TheVariants as errors
use Rattle.krb_codec.specs.Faults.{◌>>=◌}
use Rattle.krb_codec.specs.Reading.{Input, Piece, Fails, starts_between, first_of, element_at, reads_each, reads_further}

-- what was read before, and what is still read
abbrev pub with_front : {A : Type 0} → List A → Result (List A × Input) DerFault → Result (List A × Input) DerFault
with_front front read = read >>= λ x. Ok (front ++ x.0, x.1)

regroup : {A : Type 0} (front : List A) (x : A) (read : Result (List A × Input) DerFault)
    → with_front front (read >>= λ xs. Ok (x ∷ xs.0, xs.1)) ≡ with_front (front ++ x ∷ []) read
regroup front x (Ok xs) = ap (λ ys. Ok (ys, xs.1)) (simp append_assoc)
regroup front x (Err f) = refl

pub goes_on : {A : Type 0} (read : Input → Result (A × Input) DerFault)
    (front : List A) (budget : ℕ) (input after : Input) (x : A) (total : Result (List A × Input) DerFault)
    → (length input.left == 0) ≡ false → length input.left ≤ budget → length after.left < length input.left → read input ≡ Ok (x, after)
    → with_front front (reads_each read budget input) ≡ total
    → (b : ℕ) × (length after.left ≤ b) × (with_front (front ++ x ∷ []) (reads_each read b after) ≡ total)
goes_on read front zero input after x total some enough less one so_far = absurd (omega arith)
goes_on read front (suc b) input after x total some enough less one so_far =
    let step : with_front front (reads_each read (suc b) input)
    ≡ with_front (front ++ x ∷ []) (reads_each read b after) =
    rw (some, one) (regroup front x (reads_each read b after)) in
    (b, omega arith, sym step ∙ so_far)

pub ends : {A : Type 0} (read : Input → Result (A × Input) DerFault)
    (front : List A) (budget : ℕ) (input : Input) (e : ReadError) (total : Result (List A × Input) DerFault)
    → (length input.left == 0) ≡ false → length input.left ≤ budget
    → Fails e (read input) → with_front front (reads_each read budget input) ≡ total → Fails e total
ends read front budget input errors.Memory total some enough failed so_far = tt
ends read front zero input (errors.Fault f) total some enough failed so_far = let ne = eqb-false _ _ some in absurd (omega (arith, ne))
ends read front (suc b) input (errors.Fault f) total some enough failed so_far =
    let one : with_front front (reads_each read (suc b) input) ≡ Err f = rw (some, failed) refl in
    sym so_far ∙ one

pub is_done : {A : Type 0} (read : Input → Result (A × Input) DerFault) (front : List A) (budget : ℕ) (input : Input) (total : Result (List A × Input) DerFault)
    → (length input.left == 0) ≡ true → with_front front (reads_each read budget input) ≡ total → total ≡ Ok (front, input)
is_done read front zero input total none so_far = sym so_far ∙ ap (λ xs. Ok (xs, input)) (append-nil front)
is_done read front (suc b) input total none so_far =
    let one : with_front front (reads_each read (suc b) input) ≡ Ok (front, input) = rw none (ap (λ xs. Ok (xs, input)) (append-nil front)) in
    sym so_far ∙ one

pub starts_out : {A : Type 0} (read : Result (List A × Input) DerFault) → with_front [] read ≡ read
starts_out (Ok x) = refl
starts_out (Err f) = refl

-- ---- further elements

pub further_goes_on : (low high budget : ℕ) (input : Input) (e : Piece) (total : Result (Unit {0} × Input) DerFault)
    → starts_between low high input.left ≡ true → length input.left ≤ budget
    → length e.after.left < length input.left → element_at (first_of input.left) input ≡ Ok e
    → reads_further low high budget input ≡ total
    → (b : ℕ) × (length e.after.left ≤ b) × (reads_further low high b e.after ≡ total)
further_goes_on low high zero input e total some enough less one so_far = absurd (omega arith)
further_goes_on low high (suc b) input e total some enough less one so_far =
    let step : reads_further low high (suc b) input ≡ reads_further low high b e.after = rw (some, one) refl in
    (b, omega arith, sym step ∙ so_far)
