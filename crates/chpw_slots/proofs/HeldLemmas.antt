-- What connections hold together, where one of them changes.
use Rattle.std.proofs.Common.{◌≡◌, ◌≢◌, ℕ, zero, suc, ◌+◌, List, [], ◌∷◌, get_or, refl, ap, arith, Option, Some, None}
use Rattle.std.specs.List.{sum_by}
use Rattle.std.proofs.lemmas.List.Sums.{sum_by-cons}
use Rattle.slab.specs.Slab.{Slab, get, Updates}
use Rattle.chpw_connection.specs.Holding.{held_by, held_at}
use Rattle.chpw_slots.specs.Slots.{held_in}
use Rattle.chpw_connection.specs.declared.connection.Connection.{Connection}

-- lists that give the same everywhere have the same sum
same_sum : {X : Type 0} (f : X → ℕ) (d : X) → f d ≡ 0 → (xs ys : List X) → ((j : ℕ) → get_or ys j d ≡ get_or xs j d)
    → sum_by f ys ≡ sum_by f xs
same_sum f d none [] [] same = refl
same_sum f d none [] (y ∷ ys) same =
    omega (arith, none, ap f (same 0), sum_by-cons f y ys, same_sum f d none [] ys (λ j. same (suc j)))
same_sum f d none (x ∷ xs) [] same =
    omega (arith, none, ap f (same 0), sum_by-cons f x xs, same_sum f d none xs [] (λ j. same (suc j)))
same_sum f d none (x ∷ xs) (y ∷ ys) same =
    omega (arith, ap f (same 0), sum_by-cons f x xs, sum_by-cons f y ys, same_sum f d none xs ys (λ j. same (suc j)))

-- lists that differ in one place
pub changed_sum : {X : Type 0} (f : X → ℕ) (d : X) → f d ≡ 0 → (xs ys : List X) (i : ℕ) → ((j : ℕ) → j ≢ i → get_or ys j d ≡ get_or xs j d)
    → sum_by f ys + f (get_or xs i d) ≡ sum_by f xs + f (get_or ys i d)
changed_sum f d none [] [] zero same = refl
changed_sum f d none [] (y ∷ ys) zero same =
    omega (arith, none, sum_by-cons f y ys, same_sum f d none [] ys (λ j. same (suc j) (λ e. absurd (cc))))
changed_sum f d none (x ∷ xs) [] zero same =
    omega (arith, none, sum_by-cons f x xs, same_sum f d none xs [] (λ j. same (suc j) (λ e. absurd (cc))))
changed_sum f d none (x ∷ xs) (y ∷ ys) zero same =
    omega (arith, sum_by-cons f x xs, sum_by-cons f y ys, same_sum f d none xs ys (λ j. same (suc j) (λ e. absurd (cc))))
changed_sum f d none [] [] (suc i) same = refl
changed_sum f d none [] (y ∷ ys) (suc i) same =
    omega (
      arith,
      none,
      ap f (same 0 (λ e. absurd (cc))),
      sum_by-cons f y ys,
      changed_sum f d none [] ys i (λ j differs. same (suc j) (λ e. differs (cc))),
    )
changed_sum f d none (x ∷ xs) [] (suc i) same =
    omega (
      arith,
      none,
      ap f (same 0 (λ e. absurd (cc))),
      sum_by-cons f x xs,
      changed_sum f d none xs [] i (λ j differs. same (suc j) (λ e. differs (cc))),
    )
changed_sum f d none (x ∷ xs) (y ∷ ys) (suc i) same =
    omega (
      arith,
      ap f (same 0 (λ e. absurd (cc))),
      sum_by-cons f x xs,
      sum_by-cons f y ys,
      changed_sum f d none xs ys i (λ j differs. same (suc j) (λ e. differs (cc))),
    )

-- what the changed one held goes, and what it holds comes
pub held_updates : (old new : Slab Connection) (key : ℕ) (o : Option Connection) → Updates old new key o
    → held_in new + held_at (get old key) ≡ held_in old + held_at o
held_updates old new key o updates =
    omega (arith, changed_sum held_at None refl old.slots new.slots key updates.others, ap held_at updates.changed)

-- one more
pub held_adds : (old new : Slab Connection) (key : ℕ) (c : Connection) → get old key ≡ None → Updates old new key (Some c)
    → held_in new ≡ held_in old + held_by c.phase
held_adds old new key c free updates =
    omega (arith, held_updates old new key (Some c) updates, ap held_at free)
