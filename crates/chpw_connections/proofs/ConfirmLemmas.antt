-- What happened to one connection after the other.
use Rattle.std.proofs.Common.{◌≡◌, ◌≢◌, ℕ, ◌+◌, ◌<◌, ◌≤◌, sym, ◌∙◌, subst, arith, Option, below_more, le_refl}
use Rattle.slab.specs.Slab.{Slab, get}
use Rattle.chpw_connection.specs.declared.connection.Connection.{Connection}

-- this happened to each below this slot, and nothing to those from it on
pub record HappenedBelow (R : Option Connection → Option Connection → Type 0) (old new : Slab Connection) (n : ℕ) : Type 0 where
  pub below : (k : ℕ) → k < n → R (get old k) (get new k)
  pub above : (k : ℕ) → n ≤ k → get new k ≡ get old k

-- one slot more
pub happened_next : (R : Option Connection → Option Connection → Type 0) (n : ℕ) (old mid new : Slab Connection)
    → HappenedBelow R old mid n → R (get mid n) (get new n) → ((k : ℕ) → k ≢ n → get new k ≡ get mid k) → HappenedBelow R old new (n + 1)
happened_next R n old mid new happened happens others = record {
  below = below_more (λ k. R (get old k) (get new k)) n
      (λ k lt. let differs : k ≢ n = omega arith in
      subst (λ (o : Option Connection). R (get old k) o) (sym (others k differs)) (happened.below k lt))
      (subst (λ (o : Option Connection). R o (get new n)) (happened.above n (le_refl n)) happens);
  above = λ k le. let differs : k ≢ n = omega arith in let past : n ≤ k = omega arith in others k differs ∙ happened.above k past;
}
