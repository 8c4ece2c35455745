-- What the calls that hear say of a state after a fault.
use Rattle.std.specs.Prelude.{◌≡◌, ℕ, List, ◌∷◌, ◌++◌, Bool, Ok}
use Rattle.chpw_rules.specs.declared.name.Name.{Name}
use Rattle.chpw_kdc.specs.declared.fault.ProtocolFault.{ProtocolFault}
use Rattle.chpw_kdc.specs.Faults.{IsFault}
use Rattle.chpw_kdc.specs.Dialogs.{State, after_fault}
use Rattle.chpw_kdc.specs.Answering.{after_byte, after_bytes}

-- once the connection is lost, nothing is left of what came between
abbrev pub SameLost : State → State → Type 0
SameLost s t = (now : ℕ) → after_fault now t ≡ after_fault now s

-- these bytes are heard up to one at which there is a fault, or no memory; the connection is lost there
pub record FaultsIn (ours : Name → Bool) (now : ℕ) (s : State) (bytes : List ℕ) (t : State) (why : ProtocolFault) : Type 0 where
  pub before : List ℕ
  pub byte : ℕ
  pub later : List ℕ
  pub state : State
  pub parts : bytes ≡ before ++ byte ∷ later
  pub heard : after_bytes ours now s before ≡ Ok state
  pub fault : IsFault (after_byte ours now state byte) why
  pub lost : t ≡ after_fault now state
