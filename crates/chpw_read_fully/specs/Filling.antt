-- What was read into a buffer, and in how many reads.
use Rattle.std.specs.Prelude.{ℕ, ◌≡◌, ◌⊎◌, ◌≤◌, ◌<◌, List, length, take, Option}
use Rattle.std.specs.Io.KnownBytes.{Consumes, Keeps, IsAtEnd}
use Rattle.chpw_read_fully.specs.declared.filling.FillOutcome.{FillOutcome}
use Rattle.chpw_read_fully.specs.declared.filling.FillOutcome.TheVariants as filled
use Rattle.chpw_read_fully.specs.declared.filling.Step.{Step}
use Rattle.chpw_read_fully.specs.declared.filling.Step.TheVariants as step

-- what a filled buffer, or its beginning, holds was taken
abbrev pub IsFill : FillOutcome → List ℕ → Option (List ℕ) → Option (List ℕ) → Type 0
IsFill filled.Whole buffer old new = Consumes old new buffer
IsFill (filled.Short count) buffer old new = Consumes old new (take count buffer) × IsAtEnd new × (count < length buffer)
IsFill (filled.Fault count) buffer old new = Consumes old new (take count buffer) × (count < length buffer)

-- the reads that are left; any bytes took at least one, and so did a fault, unless none was left
abbrev pub FillCounts : FillOutcome → ℕ → ℕ → ℕ → Type 0
FillCounts filled.Whole n old new = (new ≤ old) × (0 < n → new < old)
FillCounts (filled.Short count) n old new = new < old
FillCounts (filled.Fault count) n old new = (new ≤ old) × ((new < old) ⊎ (new ≡ 0))

-- the result of one read
abbrev pub IsRead : Step → List ℕ → Option (List ℕ) → Option (List ℕ) → Type 0
IsRead (step.Read count) buffer old new = Consumes old new (take count buffer) × (count ≤ length buffer)
IsRead step.Ended buffer old new = Keeps old new × IsAtEnd new
IsRead step.Fault buffer old new = Keeps old new
