-- For the contract of `run_drill`: how a run of a script ends, and what it has written then.
use Rattle.std.specs.Prelude.{◌≡◌, ℕ, List, Option, Some, None, Result, Ok, Err}
use Rattle.std.specs.Io.KnownBytes.{Appends}
use Rattle.chpw_commands.specs.declared.drill.Drilled.{Drilled}
use Rattle.chpw_commands.specs.declared.drill.DrillFault.{DrillFault}
use Rattle.chpw_commands.specs.declared.drill.DrillFault.TheVariants as fault

-- no line is bad; or this one is the first
abbrev pub IsAnswer : {T : Type 0} → Drilled → Result T DrillFault → Type 0
IsAnswer d (Ok x) = d.bad ≡ None
IsAnswer d (Err (fault.Line n)) = d.bad ≡ Some n
IsAnswer d (Err fault.TooMany) = Unit {0}
IsAnswer d (Err fault.Memory) = Unit {0}
IsAnswer d (Err fault.Read) = Unit {0}
IsAnswer d (Err fault.Write) = Unit {0}

-- what is printed follows what the writer held
abbrev pub IsWritten : {T : Type 0} → Drilled → Result T DrillFault → Option (List ℕ)
    → Option (List ℕ) → Type 0
IsWritten d (Ok x) old new = Appends old new d.output
IsWritten d (Err (fault.Line n)) old new = Appends old new d.output
IsWritten d (Err fault.TooMany) old new = Unit {0}
IsWritten d (Err fault.Memory) old new = Unit {0}
IsWritten d (Err fault.Read) old new = Unit {0}
IsWritten d (Err fault.Write) old new = Unit {0}
