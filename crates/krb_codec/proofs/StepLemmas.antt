-- Steps and tests that did not fail.
use Rattle.std.proofs.Common.{◌≡◌, Bool, true, false, cond, Result, Ok, Err, refl, ◌⊎◌, inl, inr}
use Rattle.krb_codec.specs.declared.fault.DerFault.{DerFault}
use Rattle.krb_codec.specs.Faults.{◌>>=◌}

-- the value of a step
pub bind_ok : {A B : Type 0} (r : Result A DerFault) (f : A → Result B DerFault) (y : B) → (r >>= f) ≡ Ok y → (x : A) × (r ≡ Ok x) × (f x ≡ Ok y)
bind_ok (Ok x) f y e = (x, refl, e)
bind_ok (Err d) f y e = absurd cc

-- what follows a test
pub guard_ok : {A : Type 0} (b : Bool) (d : DerFault) (r : Result A DerFault) (y : A) → cond b (Err d) r ≡ Ok y → (b ≡ false) × (r ≡ Ok y)
guard_ok true d r y e = absurd cc
guard_ok false d r y e = (refl, e)

pub guard_then : {A : Type 0} (b : Bool) (d : DerFault) (r : Result A DerFault) (y : A) → cond b r (Err d) ≡ Ok y → (b ≡ true) × (r ≡ Ok y)
guard_then true d r y e = (refl, e)
guard_then false d r y e = absurd cc

pub ok_is : {A : Type 0} (x y : A) → ◌≡◌ {A = Result A DerFault} (Ok x) (Ok y) → x ≡ y
ok_is x y e = cc

pub chosen : {A : Type 0} (b : Bool) (x y z : A) → cond b x y ≡ z → ((b ≡ true) × (x ≡ z)) ⊎ ((b ≡ false) × (y ≡ z))
chosen true x y z e = inl (refl, e)
chosen false x y z e = inr (refl, e)
