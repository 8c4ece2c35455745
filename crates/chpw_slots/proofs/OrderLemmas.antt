-- The order in which the slots of a queue are taken.
use Rattle.std.proofs.Common.{◌≡◌, ℕ, List, [], ◌∷◌, ◌++◌, take, drop, refl, sym, ◌∙◌, ap, subst, Bool, true, false, cond, inl, inr, append_assoc}
use Rattle.std.proofs.Common.{take-append-drop}
use Rattle.std.specs.List.{filter}
use Rattle.chpw_slots.specs.Orders.{Step, joins, takes, keeps, Run, behind_step, run, empty_queue, Picks, FirstInFirstOut}

-- one more at both ends
picks_more : (xs ys : List ℕ) (s : ℕ) → Picks xs ys → Picks (xs ++ s ∷ []) (ys ++ s ∷ [])
picks_more [] [] s p = inl (refl, tt)
picks_more [] (y ∷ ys) s p = inr (picks_more [] ys s tt)
picks_more (x ∷ xs) [] s p = absurd p
picks_more (x ∷ xs) (y ∷ ys) s (inl both) = inl (both.0, picks_more xs ys s both.1)
picks_more (x ∷ xs) (y ∷ ys) s (inr later) = inr (picks_more (x ∷ xs) ys s later)

-- without its first one
picks_rest : (x : ℕ) (xs ys : List ℕ) → Picks (x ∷ xs) ys → Picks xs ys
picks_rest x [] ys p = tt
picks_rest x (z ∷ xs) [] p = absurd p
picks_rest x (z ∷ xs) (y ∷ ys) (inl both) = inr both.1
picks_rest x (z ∷ xs) (y ∷ ys) (inr later) = inr (picks_rest x (z ∷ xs) ys later)

-- the same list after a first one that may be left out
picks_front : (x : ℕ) (xs zs : List ℕ) → ((ys : List ℕ) → Picks xs ys → Picks zs ys) → (ys : List ℕ) → Picks (x ∷ xs) ys → Picks (x ∷ zs) ys
picks_front x xs zs fewer [] p = absurd p
picks_front x xs zs fewer (y ∷ ys) (inl both) = inl (both.0, fewer ys both.1)
picks_front x xs zs fewer (y ∷ ys) (inr later) = inr (picks_front x xs zs fewer ys later)

-- some leave
picks_filter : (test : ℕ → Bool) (q ys : List ℕ) → Picks q ys → Picks (filter test q) ys
picks_filter test [] ys p = tt
picks_filter test (x ∷ q) ys p =
    by_test (test x) (picks_front x q (filter test q) (λ zs r. picks_filter test q zs r) ys p) (picks_filter test q ys (picks_rest x q ys p))
  where
    by_test : (t : Bool) → Picks (x ∷ filter test q) ys → Picks (filter test q) ys → Picks (cond t (x ∷ filter test q) (filter test q)) ys
    by_test true stays goes = stays
    by_test false stays goes = goes

-- after those that were taken
picks_after : (test : ℕ → Bool) (taken q ys : List ℕ) → Picks (taken ++ q) ys → Picks (taken ++ filter test q) ys
picks_after test [] q ys p = picks_filter test q ys p
picks_after test (x ∷ taken) q ys p = picks_front x (taken ++ q) (taken ++ filter test q) (λ zs r. picks_after test taken q zs r) ys p

step_keeps : (r : Run) (s : Step) → Picks (r.taken ++ r.queue) r.joined → Picks ((behind_step r s).taken ++ (behind_step r s).queue) (behind_step r s).joined
step_keeps r (joins slot) p =
    subst (λ (l : List ℕ). Picks l (r.joined ++ slot ∷ [])) (append_assoc r.taken r.queue (slot ∷ [])) (picks_more (r.taken ++ r.queue) r.joined slot p)
step_keeps r takes p =
    let e : (r.taken ++ take 1 r.queue) ++ drop 1 r.queue ≡ r.taken ++ r.queue =
    append_assoc r.taken (take 1 r.queue) (drop 1 r.queue) ∙ ap (λ (l : List ℕ). r.taken ++ l) (take-append-drop 1 r.queue) in
    subst (λ (l : List ℕ). Picks l r.joined) (sym e) p
step_keeps r (keeps test) p = picks_after test r.taken r.queue r.joined p

run_keeps : (r : Run) (steps : List Step) → Picks (r.taken ++ r.queue) r.joined → Picks ((run r steps).taken ++ (run r steps).queue) (run r steps).joined
run_keeps r [] p = p
run_keeps r (s ∷ steps) p = run_keeps (behind_step r s) steps (step_keeps r s p)

pub first_in_first_out : FirstInFirstOut
first_in_first_out steps = run_keeps empty_queue steps tt
