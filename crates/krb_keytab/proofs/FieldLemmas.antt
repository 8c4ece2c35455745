-- Components read one after the other, as the loop does.
use Rattle.std.proofs.Common.{◌≡◌, ℕ, suc, ◌-◌, ◌+◌, ◌≤◌, ◌<◌, List, [], ◌∷◌, ◌++◌, Option, Some, None, refl, sym, ap, ◌∙◌, append_assoc, arith}
use Rattle.std.proofs.lemmas.List.{append-nil}
use Rattle.krb_keytab.specs.declared.fault.FieldError.{FieldError}
use Rattle.krb_keytab.specs.declared.fault.FieldError.TheVariants as field_error
use Rattle.krb_keytab.specs.Entries.{◌>>=◌, counted_at, components_at}
use Rattle.krb_keytab.specs.Answers.{FieldFails}

-- what was read before, and what is still read
abbrev pub with_front : List (List ℕ) → Option (List (List ℕ) × List ℕ) → Option (List (List ℕ) × List ℕ)
with_front front read = read >>= λ x. Some (front ++ x.0, x.1)

regroup : (front : List (List ℕ)) (one : List ℕ) (read : Option (List (List ℕ) × List ℕ))
    → with_front front (read >>= λ x. Some (one ∷ x.0, x.1)) ≡ with_front (front ++ one ∷ []) read
regroup front one (Some x) = ap (λ (ys : List (List ℕ)). Some (ys, x.1)) (simp append_assoc)
regroup front one None = refl

pub goes_on : (front : List (List ℕ)) (count i : ℕ) (bytes one after : List ℕ) (total : Option (List (List ℕ) × List ℕ))
    → i < count → counted_at bytes ≡ Some (one, after)
    → with_front front (components_at (count - i) bytes) ≡ total → with_front (front ++ one ∷ []) (components_at (count - (i + 1)) after) ≡ total
unfolding components_at
goes_on front count i bytes one after total lt h so_far =
    let k : count - i ≡ suc (count - (i + 1)) = omega arith in
    let step : with_front front (components_at (count - i) bytes)
    ≡ with_front (front ++ one ∷ []) (components_at (count - (i + 1)) after) =
    rw (k, h) (regroup front one (components_at (count - (i + 1)) after)) in
    sym step ∙ so_far

pub ends : (e : FieldError) (front : List (List ℕ)) (count i : ℕ)
    (bytes : List ℕ) (total : Option (List (List ℕ) × List ℕ)) → i < count → FieldFails e (counted_at bytes)
    → with_front front (components_at (count - i) bytes) ≡ total → FieldFails e total
unfolding components_at
ends field_error.Memory front count i bytes total lt h so_far = tt
ends field_error.PastEnd front count i bytes total lt h so_far =
    let k : count - i ≡ suc (count - (i + 1)) = omega arith in
    let step : with_front front (components_at (count - i) bytes) ≡ None = rw (k, h) refl in
    sym so_far ∙ step

pub is_done : (front : List (List ℕ)) (count i : ℕ) (bytes : List ℕ) (total : Option (List (List ℕ) × List ℕ))
    → count ≤ i → with_front front (components_at (count - i) bytes) ≡ total → total ≡ Some (front, bytes)
unfolding components_at
is_done front count i bytes total le so_far =
    let k : count - i ≡ 0 = omega arith in
    let step : with_front front (components_at (count - i) bytes) ≡ Some (front, bytes) =
    rw k (ap (λ (ys : List (List ℕ)). Some (ys, bytes)) (append-nil front)) in
    sym so_far ∙ step

pub starts_out : (read : Option (List (List ℕ) × List ℕ)) → with_front [] read ≡ read
starts_out (Some x) = refl
starts_out None = refl
