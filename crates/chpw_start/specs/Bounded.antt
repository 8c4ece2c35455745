-- What is read of a reader up to a limit.
use Rattle.std.specs.Prelude.{◌≡◌, ℕ, ◌+◌, ◌≤◌, ◌<◌, List, ◌++◌, length, Option, Bool, true, false}
use Rattle.std.specs.Io.KnownBytes.{Consumes, IsAtEnd}

-- all that it has, if that is no more than the limit
abbrev pub IsWhole : ℕ → Option (List ℕ) → Option (List ℕ) → List ℕ → Type 0
IsWhole most before after bytes = Consumes before after bytes × IsAtEnd after × (length bytes ≤ most)

-- or one byte more than the limit, and no further one
abbrev pub IsLonger : ℕ → Option (List ℕ) → Option (List ℕ) → Type 0
IsLonger most before after = (front : List ℕ) × Consumes before after front × (length front ≡ most + 1)

-- as many as there is room for, or the last ones
abbrev pub IsFull : Bool → ℕ → Option (List ℕ) → List ℕ → Type 0
IsFull true room after bytes = IsAtEnd after × (length bytes < room)
IsFull false room after bytes = length bytes ≡ room

-- a piece of it was read, and stands behind what was read before
pub record IsPiece (ended : Bool) (room : ℕ) (before after : Option (List ℕ)) (old new : List ℕ) : Type 0 where
  pub bytes : List ℕ
  pub taken : Consumes before after bytes
  pub added : new ≡ old ++ bytes
  pub full : IsFull ended room after bytes
