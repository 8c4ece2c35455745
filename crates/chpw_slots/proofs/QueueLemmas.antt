-- Queues of slots, one for each worker.
use Rattle.std.proofs.Common.{◌≡◌, ◌≢◌, ℕ, zero, suc, ◌+◌, ◌<◌, List, [], ◌∷◌, ◌++◌, length, get_or, set, map, refl, sym, ◌∙◌, ap, subst, arith, Bool, true}
use Rattle.std.proofs.Common.{false, not, cond, ◌==◌}
use Rattle.std.proofs.Math.Logic.{⊎_elim}
use Rattle.std.proofs.lemmas.Bool.{cases_eq}
use Rattle.std.proofs.lemmas.Bool.Decides.{nat_tests}
use Rattle.std.proofs.lemmas.List.{map-set, get_or-map, get_or-set_same, get_or-set_other, length-set, length-map}
use Rattle.std.proofs.lemmas.List.Sums.{sum_by-cons, sum_by-append}
use Rattle.chpw_slots.specs.Waiting.{Becomes, times, without}

-- one list of many is replaced
pub becomes_set : {X : Type 0} (f : X → List ℕ) (xs : List X) (i : ℕ) (x : X) → i < length (map f xs) → Becomes (map f xs) (map f (set xs i x)) i (f x)
becomes_set f xs i x lt = record {
  len = ap length (map-set f xs i x) ∙ length-set (map f xs) i (f x);
  here = ap (λ (l : List (List ℕ)). get_or l i []) (map-set f xs i x) ∙ get_or-set_same (map f xs) i (f x) [] lt;
  others = λ other differs. ap (λ (l : List (List ℕ)). get_or l other []) (map-set f xs i x) ∙ get_or-set_other (map f xs) i other (f x) [] differs;
}

-- empty ones and one more
pub empty_push : {X : Type 0} (f : X → List ℕ) (xs : List X) (x : X) → ((k : ℕ) → get_or (map f xs) k [] ≡ []) → f x ≡ []
    → (k : ℕ) → get_or (map f (xs ++ x ∷ [])) k [] ≡ []
empty_push f [] x h e zero = e
empty_push f [] x h e (suc k) = refl
empty_push f (y ∷ xs) x h e zero = h 0
empty_push f (y ∷ xs) x h e (suc k) = empty_push f xs x (λ j. h (suc j)) e k

-- a slot counts once for itself, and not for another
abbrev pub number : Bool → ℕ
number b = cond b 1 0

abbrev counts : ℕ → ℕ → ℕ
counts slot x = number (x == slot)

one_same : (slot x : ℕ) → x ≡ slot → counts slot x ≡ 1
one_same slot x same =
    let e : (x == slot) ≡ true = grind (arith, nat_tests) in
    ap number e

one_other : (slot x : ℕ) → x ≢ slot → counts slot x ≡ 0
one_other slot x differs =
    let e : (x == slot) ≡ false = grind (arith, nat_tests) in
    ap number e

pub times_cons : (slot x : ℕ) (q : List ℕ) → times slot (x ∷ q) ≡ counts slot x + times slot q
times_cons slot x q = sum_by-cons (counts slot) x q

pub times_head : (slot : ℕ) (q : List ℕ) → times slot (slot ∷ q) ≡ 1 + times slot q
times_head slot q = omega (arith, times_cons slot slot q, one_same slot slot refl)

pub times_after : (slot x : ℕ) (q : List ℕ) → x ≢ slot → times slot (x ∷ q) ≡ times slot q
times_after slot x q differs = omega (arith, times_cons slot x q, one_other slot x differs)

pub times_push_same : (slot : ℕ) (q : List ℕ) → times slot (q ++ slot ∷ []) ≡ times slot q + 1
times_push_same slot q = omega (arith, sum_by-append (counts slot) q (slot ∷ []), times_head slot [])

pub times_push_other : (slot x : ℕ) (q : List ℕ) → x ≢ slot → times slot (q ++ x ∷ []) ≡ times slot q
times_push_other slot x q differs = omega (arith, sum_by-append (counts slot) q (x ∷ []), times_after slot x [] differs)

-- a slot that is taken out, where it stood in front or not
without_same : (slot x : ℕ) (q : List ℕ) → x ≡ slot → without slot (x ∷ q) ≡ without slot q
without_same slot x q same =
    let e : (x == slot) ≡ true = grind (arith, nat_tests) in
    ap (λ (t : Bool). cond (not t) (x ∷ without slot q) (without slot q)) e

without_other : (slot x : ℕ) (q : List ℕ) → x ≢ slot → without slot (x ∷ q) ≡ x ∷ without slot q
without_other slot x q differs =
    let e : (x == slot) ≡ false = grind (arith, nat_tests) in
    ap (λ (t : Bool). cond (not t) (x ∷ without slot q) (without slot q)) e

-- it isn't there any more
pub times_without : (slot : ℕ) (q : List ℕ) → times slot (without slot q) ≡ 0
times_without slot [] = refl
times_without slot (x ∷ q) =
    ⊎_elim
    (λ (same : x ≡ slot). ap (times slot) (without_same slot x q same) ∙ times_without slot q)
    (λ (differs : x ≢ slot). ap (times slot) (without_other slot x q differs) ∙ times_after slot x (without slot q) differs ∙ times_without slot q)
    (cases_eq x slot)

-- the others stand as they stood
pub times_without_other : (slot other : ℕ) (q : List ℕ) → other ≢ slot → times other (without slot q) ≡ times other q
times_without_other slot other [] differs = refl
times_without_other slot other (x ∷ q) differs =
    ⊎_elim
    (λ (same : x ≡ slot).
    let apart : x ≢ other = λ e. differs (sym e ∙ same) in
    ap (times other) (without_same slot x q same) ∙ times_without_other slot other q differs ∙ sym (times_after other x q apart))
    (λ (apart : x ≢ slot).
    ap (times other) (without_other slot x q apart) ∙
    omega (arith, times_cons other x (without slot q), times_cons other x q, times_without_other slot other q differs))
    (cases_eq x slot)

-- nothing goes where it doesn't stand
pub without_none : (slot : ℕ) (q : List ℕ) → times slot q ≡ 0 → without slot q ≡ q
without_none slot [] none = refl
without_none slot (x ∷ q) none =
    ⊎_elim
    (λ (same : x ≡ slot). absurd (omega (arith, times_cons slot x q, one_same slot x same)))
    (λ (differs : x ≢ slot).
    without_other slot x q differs ∙ ap (λ (l : List ℕ). x ∷ l) (without_none slot q (sym (times_after slot x q differs) ∙ none)))
    (cases_eq x slot)

-- and the one in front leaves the rest, where it stands nowhere else
pub without_head : (slot : ℕ) (q : List ℕ) → times slot q ≡ 0 → without slot (slot ∷ q) ≡ q
without_head slot q none = without_same slot slot q refl ∙ without_none slot q none

-- one list of many becomes a function of itself
pub becomes_by : {X : Type 0} (f : X → List ℕ) (xs : List X) (i : ℕ) (d x : X) (g : List ℕ → List ℕ) → i < length (map f xs)
    → d ≡ get_or xs i d → f x ≡ g (f d) → Becomes (map f xs) (map f (set xs i x)) i (g (get_or (map f xs) i []))
becomes_by f xs i d x g lt was is =
    let within : i < length xs = omega (arith, length-map xs f) in
    let here : f d ≡ get_or (map f xs) i [] = ap f was ∙ sym (get_or-map f xs i d [] within) in
    subst (λ (l : List ℕ). Becomes (map f xs) (map f (set xs i x)) i l) (is ∙ ap g here) (becomes_set f xs i x lt)
