-- The words of the faults, and what a call gives unless memory runs out.
use Rattle.std.specs.Prelude.{◌≡◌, ℕ, List, codes, ◌⊎◌, Option, Some, Result, Err}
use Rattle.chpw_control.specs.declared.fault.ControlFault.{ControlFault}
use Rattle.chpw_control.specs.declared.fault.ControlFault.TheVariants.{UnknownCommand, NoFile, BadFileName, LineTooLong, NoWholeLine, Late, Memory}

abbrev pub fault_text : ControlFault → List ℕ
fault_text UnknownCommand = codes "unknown command"
fault_text NoFile = codes "compact wants a file"
fault_text BadFileName = codes "bad file name"
fault_text LineTooLong = codes "line too long"
fault_text NoWholeLine = codes "no whole line"
fault_text Late = codes "no command within a second"
fault_text Memory = codes "memory"

abbrev pub UnlessMemory : {A : Type 0} → Result A ControlFault → Result A ControlFault → Type 0
UnlessMemory result defined = (result ≡ Err Memory) ⊎ (result ≡ defined)

abbrev pub ToldUnlessMemory : {A : Type 0} → Option (Result A ControlFault) → Option (Result A ControlFault) → Type 0
ToldUnlessMemory told defined = (told ≡ Some (Err Memory)) ⊎ (told ≡ defined)
