-- How the first fault of a configuration is found: the first of several steps that fails gives the answer.
use Rattle.std.specs.Prelude.{◌≡◌, ℕ, List, ◌++◌, Result, Ok, Err, codes}
use Rattle.std.specs.Fmt.{decimal}
use Rattle.chpw_config.specs.declared.fault.ConfigFaultKind.{ConfigFaultKind}
use Rattle.chpw_config.specs.declared.fault.Part.{Part}
use Rattle.chpw_config.specs.declared.fault.ConfigFaultKind.TheVariants.{NotToml, MissingKey, WrongKind, OutOfRange, BadHex, Duplicate}
use Rattle.chpw_config.specs.declared.fault.Part.TheVariants.{File, Service, ServiceKey, Policy, Rule, Principal, PrincipalKey, Kdc, KdcInclude, KdcExclude}
use Rattle.chpw_config.specs.declared.fault.Location.{Location}
use Rattle.chpw_config.specs.declared.fault.ConfigFault.{ConfigFault}
use Rattle.chpw_config.specs.declared.fault.ConfigError.{ConfigError}
use Rattle.chpw_config.specs.declared.fault.ConfigError.TheVariants.{Fault, Memory}

-- a step, and then the steps after it if it has no fault
infixl 10 ◌>>=◌
abbrev pub ◌>>=◌ : {A B E : Type 0} → Result A E → (A → Result B E) → Result B E
Ok a >>= next = next a
Err fault >>= next = Err fault

-- a part of the file, and an index in its list
abbrev pub location : Part → ℕ → Location
location part index = record { part = part; index = index }

abbrev pub fault_at : Location → ConfigFaultKind → ConfigFault
fault_at at kind = record { kind = kind; part = at.part; index = at.index }

-- the fault of a file that isn't TOML, or isn't UTF-8
abbrev pub no_toml : ConfigFault
no_toml = fault_at (location File 0) NotToml

-- a value, or the kind of its fault, at its place
abbrev pub placed : {A : Type 0} → Location → Result A ConfigFaultKind → Result A ConfigFault
placed at (Ok a) = Ok a
placed at (Err kind) = Err (fault_at at kind)

-- the answer is the definition's, unless memory ran out
abbrev pub UnlessMemory : {A : Type 0} → Result A ConfigError → Result A ConfigFault → Type 0
UnlessMemory (Ok a) defined = defined ≡ Ok a
UnlessMemory (Err (Fault fault)) defined = defined ≡ Err fault
UnlessMemory (Err Memory) defined = Unit {0}

-- what the program prints of a kind, of a part, and of a fault
abbrev pub kind_text : ConfigFaultKind → List ℕ
kind_text NotToml = codes "C1"
kind_text MissingKey = codes "C2"
kind_text WrongKind = codes "C3"
kind_text OutOfRange = codes "C4"
kind_text BadHex = codes "C5"
kind_text Duplicate = codes "C6"

abbrev pub part_text : Part → List ℕ
part_text File = codes "file"
part_text Service = codes "service"
part_text ServiceKey = codes "servicekey"
part_text Policy = codes "policy"
part_text Rule = codes "rule"
part_text Principal = codes "principal"
part_text PrincipalKey = codes "principalkey"
part_text Kdc = codes "kdc"
part_text KdcInclude = codes "kdcinclude"
part_text KdcExclude = codes "kdcexclude"

abbrev pub fault_text : ConfigFault → List ℕ
fault_text fault = kind_text fault.kind ++ codes " " ++ part_text fault.part ++ codes " "
    ++ decimal fault.index
