-- How a run of a script ends: its status, and its line on standard error.
use Rattle.std.specs.Prelude.{◌≡◌, ◌⊎◌, ℕ, List, [], ◌∷◌, ◌++◌, Option, None, Result, Ok, Err}
use Rattle.std.specs.Io.KnownBytes.{Appends}
use Rattle.chpw_commands.specs.Drilled.{fault_text}
use Rattle.chpw_commands.specs.declared.drill.Drilled.{Drilled}
use Rattle.chpw_commands.specs.declared.drill.DrillFault.{DrillFault}

abbrev pub status_of : {T : Type 0} → Result T DrillFault → ℕ
status_of (Ok x) = 0
status_of (Err fault) = 1

-- 0 only if no line is bad, and all that the script prints is written
abbrev pub IsEnding : Drilled → ℕ → Option (List ℕ) → Option (List ℕ) → Type 0
IsEnding d status old new = (status ≡ 1) ⊎ ((status ≡ 0) × (d.bad ≡ None) × Appends old new d.output)

-- the fault's line, if there is a fault
abbrev pub line_of : {T : Type 0} → Result T DrillFault → List ℕ
line_of (Ok x) = []
line_of (Err fault) = fault_text fault ++ 10 ∷ []

-- that line is written, or a write failed
abbrev pub Tells : {T E : Type 0} → Result T DrillFault → Result Unit E → Option (List ℕ) → Option (List ℕ) → Type 0
Tells ended (Ok x) old new = Appends old new (line_of ended)
Tells ended (Err e) old new = Unit {0}
