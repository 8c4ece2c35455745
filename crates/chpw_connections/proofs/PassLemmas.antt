-- Whose time is up.
use Rattle.std.proofs.Common.{◌≡◌, ◌≢◌, ℕ, ◌+◌, ◌<◌, ◌≤◌, List, [], ◌∷◌, length, refl, sym, ◌∙◌, ap, subst, arith, Bool, true, false, not, ◌&&◌, cond, ◌==◌}
use Rattle.std.proofs.Common.{nat_lt, None, Option, MatchBool, below_more, le_refl}
use Rattle.std.specs.List.{filter}
use Rattle.std.proofs.Math.Logic.{⊎_elim}
use Rattle.std.proofs.lemmas.Bool.{cases_eq, cases_lt}
use Rattle.std.proofs.lemmas.Bool.Decides.{nat_tests}
use Rattle.std.proofs.lemmas.List.{get_or_past}
use Rattle.std.proofs.lemmas.List.Elements.{filter_agree}
use Rattle.slab.specs.Slab.{Slab, get}
use Rattle.chpw_connection.specs.Late.{Passes, is_late_in}
use Rattle.chpw_slots.specs.Waiting.{queue_in, without, in_time, Leaves}
use Rattle.chpw_connection.specs.declared.limits.ConnectionLimits.{ConnectionLimits}
use Rattle.chpw_connection.specs.declared.connection.Connection.{Connection}

-- below this slot each was looked at, and from it on none
pub record PassedBelow (b : ConnectionLimits) (now : ℕ) (old new : Slab Connection) (n : ℕ) : Type 0 where
  pub below : (k : ℕ) → k < n → Passes b now (get old k) (get new k)
  pub above : (k : ℕ) → n ≤ k → get new k ≡ get old k

-- of a queue what is left of the slots below this one where the late ones go, and all from it on
abbrev pub left_below : (ℕ → Bool) → ℕ → List ℕ → List ℕ
left_below late n queue = filter (λ slot. not (nat_lt slot n && late slot)) queue

keeps_all : (p : ℕ → Bool) → ((x : ℕ) → p x ≡ true) → (q : List ℕ) → filter p q ≡ q
keeps_all p all [] = refl
keeps_all p all (x ∷ q) = ap (λ (t : Bool). cond t (x ∷ filter p q) (filter p q)) (all x) ∙ ap (λ (l : List ℕ). x ∷ l) (keeps_all p all q)

-- first all are left
pub left_first : (late : ℕ → Bool) (q : List ℕ) → left_below late 0 q ≡ q
left_first late q = keeps_all (λ slot. not (nat_lt slot 0 && late slot)) none q
  where
    none : (x : ℕ) → not (nat_lt x 0 && late x) ≡ true
    none x = let e : nat_lt x 0 ≡ false = grind (arith, nat_tests) in ap (λ (t : Bool). not (t && late x)) e

-- two filters are one
filter_both : (p r : ℕ → Bool) (q : List ℕ) → filter r (filter p q) ≡ filter (λ x. p x && r x) q
filter_both p r [] = refl
filter_both p r (x ∷ q) = by_test (p x) (filter_both p r q)
  where
    by_test : (t : Bool) → filter r (filter p q) ≡ filter (λ y. p y && r y) q
        → filter r (cond t (x ∷ filter p q) (filter p q)) ≡ cond (t && r x) (x ∷ filter (λ y. p y && r y) q) (filter (λ y. p y && r y) q)
    by_test true same = ap (λ (l : List ℕ). cond (r x) (x ∷ l) l) same
    by_test false same = same

-- whether a slot is below the next one
below_next : (x n : ℕ) → x ≢ n → nat_lt x (n + 1) ≡ nat_lt x n
below_next x n differs =
    ⊎_elim
    (λ (lt : x < n).
    let a : nat_lt x n ≡ true = grind (arith, nat_tests) in
    let b : nat_lt x (n + 1) ≡ true = grind (arith, nat_tests) in
    b ∙ sym a)
    (λ (past : n ≤ x).
    let a : nat_lt x n ≡ false = grind (arith, nat_tests) in
    let over : n + 1 ≤ x = omega (arith, differs) in
    let b : nat_lt x (n + 1) ≡ false = grind (arith, nat_tests) in
    b ∙ sym a)
    (cases_lt x n)

-- the next one goes, where it is late
late_tests : (late : ℕ → Bool) (n : ℕ) → late n ≡ true → (x : ℕ) → (not (nat_lt x n && late x) && not (x == n)) ≡ not (nat_lt x (n + 1) && late x)
late_tests late n is x =
    ⊎_elim
    (λ (same : x ≡ n). subst (λ (j : ℕ). (not (nat_lt j n && late j) && not (j == n)) ≡ not (nat_lt j (n + 1) && late j)) (sym same) here)
    (λ (differs : x ≢ n).
    let e : (x == n) ≡ false = grind (arith, nat_tests) in
    ap (λ (t : Bool). not (nat_lt x n && late x) && not t) e ∙ with_true (not (nat_lt x n && late x))
    ∙ ap (λ (t : Bool). not (t && late x)) (sym (below_next x n differs)))
    (cases_eq x n)
  where
    with_true : (t : Bool) → (t && true) ≡ t
    with_true true = refl
    with_true false = refl

    with_false : (t : Bool) → (t && false) ≡ false
    with_false true = refl
    with_false false = refl

    here : (not (nat_lt n n && late n) && not (n == n)) ≡ not (nat_lt n (n + 1) && late n)
    here =
        let e : (n == n) ≡ true = grind (arith, nat_tests) in
        let below : nat_lt n (n + 1) ≡ true = grind (arith, nat_tests) in
        ap (λ (t : Bool). not (nat_lt n n && late n) && not t) e ∙ with_false (not (nat_lt n n && late n))
        ∙ sym (ap (λ (t : Bool). not (t && late n)) below ∙ ap (λ (t : Bool). not t) is)

pub left_late : (late : ℕ → Bool) (n : ℕ) (q : List ℕ) → late n ≡ true → without n (left_below late n q) ≡ left_below late (n + 1) q
left_late late n q is =
    filter_both (λ x. not (nat_lt x n && late x)) (λ x. not (x == n)) q
    ∙ filter_agree (λ x. not (nat_lt x n && late x) && not (x == n)) (λ x. not (nat_lt x (n + 1) && late x)) (late_tests late n is) q

-- and else stays
pub left_next : (late : ℕ → Bool) (n : ℕ) (q : List ℕ) → late n ≡ false → left_below late n q ≡ left_below late (n + 1) q
left_next late n q is = filter_agree (λ x. not (nat_lt x n && late x)) (λ x. not (nat_lt x (n + 1) && late x)) tests q
  where
    neither : (t : Bool) → (t && false) ≡ false
    neither true = refl
    neither false = refl

    tests : (x : ℕ) → not (nat_lt x n && late x) ≡ not (nat_lt x (n + 1) && late x)
    tests x =
        ⊎_elim
        (λ (same : x ≡ n). subst (λ (j : ℕ). not (nat_lt j n && late j) ≡ not (nat_lt j (n + 1) && late j)) (sym same)
        (ap (λ (t : Bool). not (nat_lt n n && t)) is ∙ ap (λ (t : Bool). not t) (neither (nat_lt n n) ∙ sym (neither (nat_lt n (n + 1))))
        ∙ ap (λ (t : Bool). not (nat_lt n (n + 1) && t)) (sym is)))
        (λ (differs : x ≢ n). ap (λ (t : Bool). not (t && late x)) (sym (below_next x n differs)))
        (cases_eq x n)

-- behind the last slot none is late
pub left_last : (b : ConnectionLimits) (now : ℕ) (slots : Slab Connection) (n : ℕ) (q : List ℕ) → length slots.slots ≤ n
    → left_below (λ slot. is_late_in b now (get slots slot)) n q ≡ in_time b now slots q
left_last b now slots n q few = filter_agree (λ x. not (nat_lt x n && late x)) (λ x. not (late x)) tests q
  where
    late : ℕ → Bool
    late slot = is_late_in b now (get slots slot)

    tests : (x : ℕ) → not (nat_lt x n && late x) ≡ not (late x)
    tests x =
        ⊎_elim
        (λ (lt : x < n). let e : nat_lt x n ≡ true = grind (arith, nat_tests) in ap (λ (t : Bool). not (t && late x)) e)
        (λ (past : n ≤ x).
        let e : nat_lt x n ≡ false = grind (arith, nat_tests) in
        let none : late x ≡ false = ap (is_late_in b now) (get_or_past slots.slots x None (omega arith)) in
        ap (λ (t : Bool). not (t && late x)) e ∙ ap (λ (t : Bool). not t) (sym none))
        (cases_lt x n)

-- the queues behind one more slot
pub left_step : (b b' : ConnectionLimits) (now n : ℕ) (old mid : Slab Connection) (queues mid_queues new_queues : List (List ℕ)) → b' ≡ b
    → get mid n ≡ get old n
    → ((worker : ℕ) → queue_in mid_queues worker ≡ left_below (λ slot. is_late_in b now (get old slot)) n (queue_in queues worker))
    → MatchBool (is_late_in b' now (get mid n)) (Leaves mid_queues new_queues n) (new_queues ≡ mid_queues)
    → (worker : ℕ) → queue_in new_queues worker ≡ left_below (λ slot. is_late_in b now (get old slot)) (n + 1) (queue_in queues worker)
left_step b b' now n old mid queues mid_queues new_queues same here left goes worker =
    by_test (late n) refl (subst (λ (t : Bool). MatchBool t (Leaves mid_queues new_queues n) (new_queues ≡ mid_queues)) is goes)
  where
    late : ℕ → Bool
    late slot = is_late_in b now (get old slot)

    is : is_late_in b' now (get mid n) ≡ late n
    is = ap (λ (c : ConnectionLimits). is_late_in c now (get mid n)) same ∙ ap (is_late_in b now) here

    by_test : (t : Bool) → late n ≡ t → MatchBool t (Leaves mid_queues new_queues n) (new_queues ≡ mid_queues)
        → queue_in new_queues worker ≡ left_below late (n + 1) (queue_in queues worker)
    by_test true e leaves =
        leaves.queues worker ∙ ap (without n) (left worker) ∙ left_late late n (queue_in queues worker) e
    by_test false e stay =
        ap (λ (q : List (List ℕ)). queue_in q worker) stay ∙ left worker ∙ left_next late n (queue_in queues worker) e

-- and the connections
pub passed_next : (b b' : ConnectionLimits) (now n : ℕ) (old mid new : Slab Connection) → b' ≡ b → PassedBelow b now old mid n
    → Passes b' now (get mid n) (get new n) → ((k : ℕ) → k ≢ n → get new k ≡ get mid k) → PassedBelow b now old new (n + 1)
passed_next b b' now n old mid new same passed passes others = record {
  below = below_more (λ k. Passes b now (get old k) (get new k)) n
      (λ k lt. let differs : k ≢ n = omega arith in
      subst (λ (o : Option Connection). Passes b now (get old k) o) (sym (others k differs)) (passed.below k lt))
      (subst (λ (o : Option Connection). Passes b now o (get new n)) (passed.above n (le_refl n))
      (subst (λ (c : ConnectionLimits). Passes c now (get mid n) (get new n)) same passes));
  above = λ k le. let differs : k ≢ n = omega arith in let past : n ≤ k = omega arith in others k differs ∙ passed.above k past;
}
