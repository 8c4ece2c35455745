-- What a call gives unless memory runs out.
use Rattle.std.specs.Prelude.{◌≡◌, ◌⊎◌, Bool, true, Result, Err}
use Rattle.chpw_kdc.specs.declared.fault.LineFault.{LineFault}
use Rattle.chpw_kdc.specs.declared.fault.LineFault.TheVariants as line
use Rattle.chpw_kdc.specs.declared.fault.ProtocolFault.{ProtocolFault}
use Rattle.chpw_kdc.specs.declared.fault.ProtocolFault.TheVariants as protocol

-- a line's fault ends the connection
abbrev pub fault_of_line : LineFault → ProtocolFault
fault_of_line line.Memory = protocol.Memory
fault_of_line fault = protocol.BadLine fault

-- what is defined, or want of memory
abbrev pub ReadUnlessMemory : {A : Type 0} → Result A LineFault → Result A LineFault → Type 0
ReadUnlessMemory result defined = (result ≡ Err line.Memory) ⊎ (result ≡ defined)

abbrev pub IsReadFault : {A : Type 0} → Result A LineFault → LineFault → Type 0
IsReadFault defined why = (why ≡ line.Memory) ⊎ (defined ≡ Err why)

-- the fault is the defined one, or want of memory
abbrev pub IsFault : {A : Type 0} → Result A ProtocolFault → ProtocolFault → Type 0
IsFault defined why = (why ≡ protocol.Memory) ⊎ (defined ≡ Err why)

-- the name is listed already, or want of memory
abbrev pub IsListFault : ProtocolFault → Bool → Type 0
IsListFault why listed = (why ≡ protocol.Memory) ⊎ ((why ≡ protocol.NamedTwice) × (listed ≡ true))
