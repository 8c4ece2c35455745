-- The first fault of a text, and its place.
use Rattle.std.specs.Prelude.{ℕ, Result, Ok, Err}
use Rattle.krb_codec.specs.declared.fault.FaultKind.{FaultKind}
use Rattle.krb_codec.specs.declared.fault.DerFault.{DerFault}

-- a fault of a kind, at a place
abbrev pub fault : {A : Type 0} → ℕ → FaultKind → Result A DerFault
fault place kind = Err (record { place = place; kind = kind })

-- one step after the other, up to the first fault
infixl 10 ◌>>=◌
abbrev pub ◌>>=◌ : {A B : Type 0} → Result A DerFault → (A → Result B DerFault) → Result B DerFault
(Ok x) >>= f = f x
(Err e) >>= f = Err e
