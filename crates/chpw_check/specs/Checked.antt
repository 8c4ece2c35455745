-- The command `check`: its line about a file, and the status.
use Rattle.std.specs.Prelude.{ℕ, List, [], ◌++◌, length, Result, Ok, Err, codes, if◌then◌else◌}
use Rattle.std.specs.Fmt.{decimal}
use Rattle.std.specs.Str.{is_utf8}
use Rattle.chpw_rules.specs.declared.config.Config.{Config}
use Rattle.chpw_config.specs.declared.fault.ConfigFault.{ConfigFault}
use Rattle.chpw_config.specs.Faults.{no_toml, fault_text, ◌>>=◌}
use Rattle.chpw_config.specs.Kdc.{kdc_of}
use Rattle.chpw_config.specs.Settings.{settings_of}
use Rattle.chpw_warnings.specs.Lines.{file_lines}
use Rattle.chpw_warnings.specs.Rules.{config_warnings}
use Rattle.chpw_commands.specs.declared.drill.DrillFault.{DrillFault}
use Rattle.chpw_commands.specs.declared.drill.DrillFault.TheVariants as drill

-- the configuration or its first fault, which may be one of the table [kdc]
abbrev pub whole_file : List ℕ → Result Config ConfigFault
whole_file text = do
  config ← settings_of text
  _ ← kdc_of text
  Ok config

-- bytes that are not UTF-8 are no TOML
abbrev pub checked : List ℕ → Result Config ConfigFault
checked text = if is_utf8 text then whole_file text else Err no_toml

abbrev pub good_line : Config → List ℕ
good_line c =
    codes "ok: principals " ++ decimal (length c.principals)
    ++ codes ", rules " ++ decimal (length c.rules.list)
    ++ codes ", service keys " ++ decimal (length c.service) ++ codes "\n"

abbrev pub fault_line : ConfigFault → List ℕ
fault_line fault = fault_text fault ++ codes "\n"

abbrev pub line_of_check : Result Config ConfigFault → List ℕ
line_of_check (Ok c) = good_line c
line_of_check (Err fault) = fault_line fault

abbrev pub status_of : Result Config ConfigFault → ℕ
status_of (Ok c) = 0
status_of (Err fault) = 1

-- ---- the warnings about a configuration without a fault, a line for each

abbrev pub lines_about : (file text : List ℕ) → Result Config ConfigFault → List ℕ
lines_about file text (Ok c) = file_lines file (config_warnings text c)
lines_about file text (Err fault) = []

abbrev pub warning_lines : (file text : List ℕ) → List ℕ
warning_lines file text = lines_about file text (checked text)

-- ---- the end

-- the only faults with which a check ends early
abbrev pub IsCheckFault : DrillFault → Type 0
IsCheckFault drill.Memory = Unit {0}
IsCheckFault drill.Write = Unit {0}
IsCheckFault drill.TooMany = ⊥
IsCheckFault drill.Read = ⊥
IsCheckFault (drill.Line n) = ⊥
